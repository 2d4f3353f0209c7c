use Rattle.std.proofs.Common.{ℕ, get_or, ap}
use Rattle.runner.specs.Image.{lane_in}
use Rattle.runner.proofs.rows.word_at.Goals as goal

pub returns : goal.returns
unfolding lane_in
returns c = ap (λ (k : ℕ). get_or c.args.image.now k 0) c.place-at.ensures
