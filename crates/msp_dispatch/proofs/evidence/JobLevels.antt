-- Levels of jobs show the best cost where it is the greatest bound of a level.
use Rattle.std.proofs.Common.{◌≡◌, ℕ, ◌+◌, ◌*◌, ◌-◌, ◌/◌, ◌<◌, ◌≤◌, length, pos, count_by, cond, leb, refl, sym, ap, ◌∙◌, arith}
use Rattle.std.specs.List.{range_with_len}
use Rattle.std.proofs.Math.Nat.{div-le_self}
use Rattle.std.proofs.lemmas.List.{get_or_default}
use Rattle.std.proofs.lemmas.List.Sums.{count_by-le-length}
use Rattle.std.proofs.lemmas.List.FromFn.{length-range_with_len}
use Rattle.msp_class.specs.declared.sizes.TheConstants.{MOST_JOBS, MOST_MACHINES}
use Rattle.msp_class.proofs.Sums.{total_below-range, total_below-same}
use Rattle.msp_class.specs.Env.{kind_of}
use Rattle.msp_instance.specs.declared.Instance.{Instance}
use Rattle.msp_instance.specs.Conditions.{InClass}
use Rattle.msp_pieces.specs.declared.Frac.{Frac}
use Rattle.msp_pieces.specs.Levels.{IsLevel, jobs_from, level_bound}
use Rattle.msp_cert.specs.declared.Proof.TheVariants.{Levels}
use Rattle.msp_cert.specs.Certificates.{HasUnitJobs, of_job}
use Rattle.msp_pieces.proofs.bounds.LevelBound.{StepsDown-levels}
use Rattle.msp_cert.proofs.Tails.{level_few}
use Rattle.msp_levels.specs.Levels.{levels_class, IsLevelCost}
use Rattle.msp_dispatch.specs.Shown.{IsTriedValue}
use Rattle.msp_dispatch.proofs.evidence.Tried.{tried-levels}

-- ---- a job has one level
pub level_same : (i : Instance) (j a b : ℕ) → IsLevel i.arcs j a → IsLevel i.arcs j b → a ≡ b
level_same i j a b h g = omega (arith, h.longest b g.path, g.longest a h.path)

count_same : (n : ℕ) (f g : ℕ → ℕ) (t : ℕ) → ((j : ℕ) → j < n → f j ≡ g j) → count_by (λ j. leb t (f j)) (range_with_len 0 n) ≡ count_by (λ j. leb t (g j)) (range_with_len 0 n)
count_same n f g t e =
    total_below-range n (λ j. cond (leb t (f j)) 1 0)
    ∙ total_below-same n (λ j. cond (leb t (f j)) 1 0) (λ j. cond (leb t (g j)) 1 0) (λ j l. ap (λ x. cond (leb t x) 1 0) (e j l))
    ∙ sym (total_below-range n (λ j. cond (leb t (g j)) 1 0))

pub level_bound-same : (i : Instance) (f g : ℕ → ℕ) (t : ℕ) → ((j : ℕ) → j < length i.jobs → f j ≡ g j) → level_bound i f t ≡ level_bound i g t
level_bound-same i f g t e = ap (λ n. t + (n + (i.machines - 1)) / i.machines) (count_same (length i.jobs) f g t e)

-- ---- an instance of the class
module _ (i : Instance) (c : InClass i) (class : i.class ≡ levels_class) (cost : Frac) where
  units : HasUnitJobs i
  units = record {
    makespan = ap (λ x. x.crit) class;
    identical = ap (λ x. kind_of x.env) class;
    uncut = ap (λ x. x.cut) class;
    units = ap (λ x. x.times) class;
  }

  bound_short : (level : ℕ → ℕ) (t : ℕ) → t < MOST_JOBS → level_bound i level t ≤ 2 * MOST_JOBS + MOST_MACHINES
  bound_short level t low =
      let many : jobs_from i level t ≤ length i.jobs = omega (arith, count_by-le-length (λ j. leb t (level j)) (range_with_len 0 (length i.jobs)), length-range_with_len 0 (length i.jobs)) in
      let part = div-le_self (jobs_from i level t + (i.machines - 1)) i.machines in
      omega (arith, low, many, part, c.conditions.few, c.conditions.machines.1)

  pub IsTriedValue-levels : IsLevelCost i cost → IsTriedValue i cost
  IsTriedValue-levels (level, bound, are, greatest, over) =
      let (j, l, e) = greatest.reached in
      let low = level_few i level c are j l in
      record {
        value = bound;
        unit = 1;
        over = over;
        some = omega arith;
        value_small = omega (arith, e, bound_short level (level j) (omega (arith, low, c.conditions.few)));
        unit_small = omega arith;
        proof = λ longest levels _ all.
            let same : (k : ℕ) → k < length i.jobs → level k ≡ of_job levels k = λ k b. level_same i k (level k) (of_job levels k) (are k b) (all.levels k b) in (
              Levels levels (level j),
              tried-levels i longest levels (level j) low,
              record {
                units = units;
                each = all.each;
                steps = StepsDown-levels i (of_job levels) c.conditions.ends all.levels;
                some = (j, of_job levels j, omega (arith, l, all.each), get_or_default levels j (of_job levels j) 0 (omega (arith, l, all.each)), omega (arith, same j l));
              },
              (ap pos (sym e ∙ level_bound-same i level (of_job levels) (level j) same), refl),
            );
      }
