use Rattle.std.proofs.Common.{◌≡◌, refl, sym, ◌∙◌, arith}
use Rattle.std.proofs.lemmas.Fn.{serves_by}
use mathlib.Core.Path.{subst}
use Rattle.runner.proofs.Filled.{given_row}
use Rattle.runner.proofs.rows.row.Goals as goal

pub from_fn-requires : goal.from_fn-requires
from_fn-requires g c = (omega arith, serves_by _ (λ xs q. q ≡ c.args.word) (λ xs q x v j r. g.met.F.Fn.1.step_stays _ _ _ _ r.1 ∙ j) _ _ _ _ refl (λ xs t q x u y s j. subst (λ z. g.F.Fn.pre z (x, tt)) (sym j) (c.requires x (omega (arith, s.0, s.1)))))

pub returns : goal.returns
returns g c = λ w h. given_row _ g.met.F.FnMut.1 g.met.F.Fn.1.step_stays c.args.word w _ h c.from_fn.ensures.items
