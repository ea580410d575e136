-- How often a chain turns release dates into due dates, and the moments of what comes back over it.
use Rattle.std.proofs.Common.{if◌then◌else◌, cond, ◌≡◌, ℕ, suc, ◌+◌, ◌*◌, ◌≤◌, Bool, true, false, ◌&&◌, eqb, List, [], ◌∷◌, length, Some, None, ℤ, pos, ◌+ℤ◌, ◌*ℤ◌, ◌≤ℤ◌, refl, sym, ap, subst, ◌∙◌, arith}
use Rattle.std.specs.Prelude.{◌==◌, ◌||◌}
use Rattle.std.proofs.lemmas.Int.{ints}
use Rattle.std.proofs.lemmas.Bool.{eqb-true}
use Rattle.msp_class.specs.declared.class.Class.{Class}
use Rattle.msp_class.specs.declared.class.Crit.TheVariants.{Lmax}
use Rattle.msp_class.specs.Rank.{flag_number, crit_number}
use Rattle.msp_class.specs.declared.ranks.TheConstants.{CLASSES}
use Rattle.msp_class.specs.Env.{is_mirror}
use Rattle.msp_class.specs.Order.{turned}
use Rattle.msp_class.proofs.Sums.{cond-le}
use Rattle.msp_class.proofs.IntegerRing.{≤ℤ_trans}
use Rattle.msp_table.specs.Rows.{table, goes_of, turns_dates}
use Rattle.msp_table.specs.Chains.{Leads}
use Rattle.msp_table.proofs.ChainLemmas.{Leads-first}
use Rattle.msp_route.specs.declared.bounds.TheConstants.{GREATEST_ANSWER_MOMENT, GREATEST_BACK_MOMENT, GREATEST_RAISE, GREATEST_LINED_UP, GREATEST_CLOSED_UP}
use Rattle.msp_carry.specs.Moments.{moment_over}

abbrev one_if : Bool → ℕ
one_if b = cond b 1 0

-- 1 where the class measures the makespan: only from there may release dates be turned at once
spare : Class → ℕ
spare c = one_if (eqb (crit_number c.crit) 0)

spare-most : (c : Class) → spare c ≤ 1
unfolding spare
spare-most c = cond-le (eqb (crit_number c.crit) 0) 1

-- the rows of a chain that turn release dates into due dates
abbrev turns_in : List ℕ → ℕ
turns_in [] = 0
turns_in (k ∷ ks) = turns_in ks + one_if (turns_dates k)

-- from the makespan, which has one to spare, to the greatest lateness, which has none
turned_when : (a c : Class) (h r m : Bool) → eqb (crit_number a.crit) 0 ≡ r
    → (if (h && (r && true)) && m then Some (record a { order = turned a.order; heads = false; crit = Lmax }) else None) ≡ Some c → (spare a ≡ 1) × (spare c ≡ 0)
unfolding spare
turned_when a c true true true is g =
    let same : record a { order = turned a.order; heads = false; crit = Lmax } ≡ c = cc in (ap one_if is, subst (λ x. spare x ≡ 0) same refl)
turned_when a c _ _ _ is g = absurd (cc)

turned_from : (a c : Class) → goes_of 47 a ≡ Some c → (spare a ≡ 1) × (spare c ≡ 0)
unfolding goes_of table
turned_from a c e = turned_when a c (eqb (flag_number a.heads) 1) (eqb (crit_number a.crit) 0) (is_mirror a.env) refl e

-- at most every second row turns dates, and the first
turns_in-few : (usable : ℕ → Bool) (a b : Class) (ks : List ℕ) → Leads usable a ks b → 2 * turns_in ks ≤ length ks + spare a
turns_in-few usable a b [] leads = omega arith
turns_in-few usable a b (k ∷ ks) leads =
    let first = Leads-first leads in
    by (turns_dates k) refl first.next first.goes (turns_in-few usable first.next b ks first.rest)
  where
    by : (t : Bool) → turns_dates k ≡ t → (c : Class) → goes_of k a ≡ Some c → 2 * turns_in ks ≤ length ks + spare c → 2 * (turns_in ks + one_if t) ≤ suc (length ks) + spare a
    by true e c goes few = let both = turned_from a c (ap (λ j. goes_of j a) (sym (eqb-true k 47 e)) ∙ goes) in omega (arith, few, both.0, both.1)
    by false e c goes few = omega (arith, few, spare-most c)

moment_over-most : (ks : List ℕ) → moment_over ks ≤ℤ (GREATEST_ANSWER_MOMENT +ℤ (pos (turns_in ks) *ℤ GREATEST_RAISE))
moment_over-most [] = omega (arith, ints)
moment_over-most (k ∷ ks) = by (moment_over ks) (turns_in ks) (turns_dates k) (k == 51 || k == 52) (k == 54) (moment_over-most ks)
  where
    by : (m : ℤ) (n : ℕ) (t l c : Bool) → m ≤ℤ (GREATEST_ANSWER_MOMENT +ℤ (pos n *ℤ GREATEST_RAISE))
        → (if t then m +ℤ GREATEST_RAISE else if l then GREATEST_LINED_UP else if c then GREATEST_CLOSED_UP else m)
        ≤ℤ (GREATEST_ANSWER_MOMENT +ℤ (pos (n + one_if t) *ℤ GREATEST_RAISE))
    by m n true l c h = omega (arith, ints)
    by m n false true c h = omega (arith, ints)
    by m n false false true h = omega (arith, ints)
    by m n _ _ _ h = omega (arith, ints)

low : (n : ℕ) → 2 * n ≤ CLASSES + 1 → (GREATEST_ANSWER_MOMENT +ℤ (pos n *ℤ GREATEST_RAISE)) ≤ℤ GREATEST_BACK_MOMENT
low n h = omega (arith, ints)

-- over a chain of at most as many rows as there are classes the moments stay within what comes back over a row
pub moment_over-low : (usable : ℕ → Bool) (a b : Class) (ks : List ℕ) → Leads usable a ks b → length ks ≤ CLASSES → moment_over ks ≤ℤ GREATEST_BACK_MOMENT
moment_over-low usable a b ks leads few =
    ≤ℤ_trans (moment_over-most ks) (low (turns_in ks) (omega (arith, turns_in-few usable a b ks leads, spare-most a)))
