-- A run can be cut anywhere. Assumes nothing.
use mathlib.Core.Path.{◌≡◌, sym, ap, ◌∙◌}
use Prim.Native.Nat.{ℕ, zero, suc, ◌+◌, ◌/◌, ◌%◌, ◌<◌, ◌≤◌}
use native.Mathlib.Omega.{arith}
use mathlib.Core.Bool.{true}
use mathlib.Core.List.{List, ◌++◌}
use lib.ListN.{length, length-append}
use Rattle.lane.specs.declared.Settings.{Settings}
use Rattle.lane.specs.declared.Insn.{Insn}
use Rattle.lane.specs.Load.{next_cursor, meets_dst}
use Rattle.lane.specs.Refusals.{settings_good, instruction_answer}
use Rattle.lane.proofs.Cases.{pick_lt}
use Rattle.lane.proofs.Accepted.{settings_in_range, in_range_settings}
use Rattle.runner.specs.Checks.{Found}
use Rattle.runner.specs.declared.Outcome.{Outcome}
use Rattle.runner.specs.Checks.{count_of, list_limit, run_answer}
use Rattle.runner.specs.Run.{Machine, stepped, steps, begin, finish, ties_by, stores_by, when_done, Ran}
use Rattle.runner.proofs.Accepted.{Accepted, accepted, run_accepted}
use Rattle.runner.proofs.Scan.{insn_first, insn_second}
use Rattle.claims.specs.Claims.{with_cursor, PartsOf}
use Rattle.claims.proofs.Kept.{good_steps, length_steps, length_dst_steps}
use Rattle.claims.proofs.Runs.{done, cut, cut_counts, stores_cursor}

-- ---- the cursor stays in its range

moves : (op cursor chosen : ℕ) → cursor < 1024 → next_cursor op cursor chosen < 1024
unfolding next_cursor
moves op cursor chosen h = pick_lt (meets_dst op) _ cursor 1024 (omega arith) h

pub cursor_under : (s : Settings) (list : List ℕ) (n : ℕ) (m : Machine) → m.cursor < 1024 → (steps s list n m).cursor < 1024
unfolding steps stepped
cursor_under s list zero m h = h
cursor_under s list (suc n) m h = moves _ (steps s list n m).cursor _ (cursor_under s list n m h)

still_good : (k : ℕ) (s : Settings) → settings_good s ≡ true → k < 1024 → settings_good (with_cursor k s) ≡ true
unfolding with_cursor
still_good k s h l =
    let r = settings_in_range s h in
    in_range_settings (with_cursor k s)
    (record {
      edition = r.edition;
      srcb = r.srcb;
      offset = r.offset;
      cursor = l;
      stride0 = r.stride0;
      stride1 = r.stride1;
      stride2 = r.stride2;
      stride3 = r.stride3;
    })

-- ---- the theorem

module _ (s : Settings) (a b image dst : List ℕ) (six : length a % 6 ≡ 0) (h : (run_answer s image dst (a ++ b)).answer ≡ 0) where
  all : Accepted s image dst (a ++ b)
  all = accepted s image dst (a ++ b) h

  joined : length (a ++ b) ≡ length a + length b
  joined = length-append a b

  few : length (a ++ b) / 6 ≤ list_limit
  few = all.passed.list_given.few

  whole : length (a ++ b) % 6 ≡ 0
  whole = all.passed.list_given.six

  -- the first part is accepted
  pub first_accepted : (run_answer s image dst a).answer ≡ 0
  first_accepted =
      ap (λ (f : Found). f.answer)
      (run_accepted s image dst a
      (record {
        passed =
            record {
              image_long = all.passed.image_long;
              dst_long = all.passed.dst_long;
              list_given = record { settings_good_lem = all.passed.list_given.settings_good_lem; six = six; few = omega (arith, few, joined) };
              image_good_lem = all.passed.image_good_lem;
            };
        each =
            λ j l.
            ap (λ (x : Insn). instruction_answer true x) (sym (insn_first a b j (omega arith))) ∙ all.each j (omega (arith, joined));
      }))

  -- the settings that it leaves
  pub rest_settings : Settings
  rest_settings = with_cursor (finish s image dst a).cursor s

  -- and the rest is accepted from there
  pub rest_accepted : (run_answer rest_settings (finish s image dst a).image (finish s image dst a).dst b).answer ≡ 0
  unfolding rest_settings
  rest_accepted =
      ap (λ (f : Found). f.answer)
      (run_accepted (with_cursor (finish s image dst a).cursor s) (finish s image dst a).image (finish s image dst a).dst b
      (record {
        passed =
            record {
              image_long = length_steps s a (count_of a) (begin s image dst) all.passed.image_long;
              dst_long = length_dst_steps s a (count_of a) (begin s image dst) all.passed.dst_long;
              list_given =
                  record {
                    settings_good_lem =
                        still_good (finish s image dst a).cursor s all.passed.list_given.settings_good_lem
                        (cursor_under s a (count_of a) (begin s image dst) (settings_in_range s all.passed.list_given.settings_good_lem).cursor);
                    six = omega (arith, whole, joined);
                    few = omega (arith, few, joined);
                  };
              image_good_lem = good_steps s a (count_of a) (begin s image dst) all.passed.image_good_lem;
            };
        each =
            λ j l.
            ap (λ (x : Insn). instruction_answer true x) (sym (insn_second a b j six)) ∙ all.each (length a / 6 + j) (omega (arith, joined));
      }))

  -- the steps add up
  added : count_of (a ++ b) ≡ count_of a + count_of b
  added = omega (arith, joined)

  module _ (o p q : Outcome) (after stored middle between end ended : List ℕ) (ran : Ran s image dst (a ++ b) o after stored)
      (ran_first : Ran s image dst a p middle between) (ran-rest : Ran (with_cursor p.cursor s) middle between b q end ended) where
    -- what each of the three runs comes to
    whole_is : (o ≡ when_done s image dst (a ++ b))
        × ((after ≡ (finish s image dst (a ++ b)).image) × (stored ≡ (finish s image dst (a ++ b)).dst))
    whole_is = let d = done s image dst (a ++ b) h in (ran.outcome_is ∙ d.0, (ran.image_is ∙ d.1.0, ran.dst_is ∙ d.1.1))

    first_is : (p ≡ when_done s image dst a)
        × ((middle ≡ (finish s image dst a).image) × (between ≡ (finish s image dst a).dst))
    first_is = let d = done s image dst a first_accepted in (ran_first.outcome_is ∙ d.0, (ran_first.image_is ∙ d.1.0, ran_first.dst_is ∙ d.1.1))

    -- the machine that the rest leads to
    rest : Machine
    rest = finish rest_settings (finish s image dst a).image (finish s image dst a).dst b

    rest_is : (q ≡ when_done rest_settings (finish s image dst a).image (finish s image dst a).dst b) × ((end ≡ rest.image) × (ended ≡ rest.dst))
    unfolding rest_settings rest
    rest_is =
        let c : p.cursor ≡ (finish s image dst a).cursor = ap (λ (x : Outcome). x.cursor) first_is.0 in
        let d = done rest_settings (finish s image dst a).image (finish s image dst a).dst b rest_accepted in (
          ran-rest.outcome_is ∙ cc (c, first_is.1.0, first_is.1.1) ∙ d.0,
          (ran-rest.image_is ∙ cc (c, first_is.1.0, first_is.1.1) ∙ d.1.0, ran-rest.dst_is ∙ cc (c, first_is.1.0, first_is.1.1) ∙ d.1.1),
        )

    -- which is the one that the whole list leads to
    same_end : finish s image dst (a ++ b) ≡ rest
    unfolding rest_settings rest
    same_end = cut s a b image dst six

    pub cut_run : PartsOf o p q after stored end ended
    unfolding rest_settings rest
    cut_run =
        record {
          first_done = ap (λ (x : Outcome). x.answer) first_is.0;
          second_done = ap (λ (x : Outcome). x.answer) rest_is.0;
          image = rest_is.1.0 ∙ sym (whole_is.1.0 ∙ ap (λ (m : Machine). m.image) same_end);
          dst = rest_is.1.1 ∙ sym (whole_is.1.1 ∙ ap (λ (m : Machine). m.dst) same_end);
          cursor =
              ap (λ (x : Outcome). x.cursor) rest_is.0
              ∙ sym (ap (λ (x : Outcome). x.cursor) whole_is.0 ∙ ap (λ (m : Machine). m.cursor) same_end);
          steps =
              ap (λ (x : Outcome). x.steps) whole_is.0 ∙ added
              ∙ ap (λ (n : ℕ). n + count_of b) (sym (ap (λ (x : Outcome). x.steps) first_is.0))
              ∙ ap (λ (n : ℕ). p.steps + n) (sym (ap (λ (x : Outcome). x.steps) rest_is.0));
          ties = λ c. rw (whole_is.0, first_is.0, rest_is.0) (cut_counts ties_by s a b image dst c six);
          stores =
              λ c.
              rw (whole_is.0, first_is.0, rest_is.0, stores_cursor (finish s image dst a).cursor s) (cut_counts (stores_by s) s a b image dst c six);
        }
