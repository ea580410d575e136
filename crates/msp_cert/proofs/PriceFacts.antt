-- Prices added up and compared, machine by machine.
use Rattle.std.proofs.Common.{◌≡◌, ℕ, zero, suc, ◌+◌, ◌*◌, ◌/◌, ◌%◌, ◌<◌, ◌≤◌, true, false, List, length, get_or, map, Some, ℤ, pos, ◌+ℤ◌, ◌≤ℤ◌, All, IsTrue, ◌↔◌, refl}
use Rattle.std.proofs.Common.{sym, ap, ap₂, subst, subst₂, ◌∙◌, arith, add-one, add-zero, add-suc, mul-zero, mul-suc, pos_of_ne-zero, below_more}
use Rattle.std.specs.List.{range_with_len}
use Rattle.std.proofs.lemmas.Int.{ints}
use Rattle.std.proofs.lemmas.Nat.{div_below, mod_below, div-add-mod'}
use Rattle.std.proofs.lemmas.Bool.{false≢true}
use Rattle.std.proofs.lemmas.List.{get_or_default}
use Rattle.msp_class.specs.Sums.{int_total_below}
use Rattle.msp_class.proofs.IntegerRing.{+ℤ_assoc, +ℤ_idr}
use Rattle.msp_class.proofs.Sums.{int_total_below-same}
use Rattle.msp_class.specs.declared.environments.EnvKind.TheVariants.{Unrelated}
use Rattle.msp_class.specs.Env.{kind_of}
use Rattle.msp_instance.specs.declared.Need.{Need}
use Rattle.msp_instance.specs.declared.Job.{Job}
use Rattle.msp_instance.specs.declared.Instance.{Instance}
use Rattle.msp_instance.specs.Instance.{no_job, job_at}
use Rattle.msp_instance.specs.Conditions.{LiesWithin, HasShape, InClass}
use Rattle.msp_instance.proofs.PathBitLemmas.{row_inside}
use Rattle.msp_pieces.specs.declared.Frac.{Frac}
use Rattle.msp_pieces.specs.Feasible.{total}
use Rattle.msp_pieces.specs.Prices.{prices_on_machine, all_prices}
use Rattle.msp_pieces.proofs.feasible.OneMachine.{total-below}
use Rattle.msp_pieces.proofs.bounds.PriceBounds.{total_over_range}
use Rattle.msp_cert.specs.declared.limits.TheConstants.{GREATEST_PRICE}
use Rattle.msp_cert.specs.declared.Proof.TheVariants.{Prices}
use Rattle.msp_cert.specs.Worth.{IsWorth}
use Rattle.msp_cert.specs.Certificates.{IsPriced, row_price, column_price}
use Rattle.msp_cert.specs.Fair.{IsFair, AreFair, HasPricedShape}

-- ---- added up
pub record IsSum (prices : List ℤ) (k : ℕ) (sum : ℤ) : Type 0 where
  pub value : sum ≡ int_total_below k (λ j. get_or prices j (pos 0))
  pub size : LiesWithin (GREATEST_PRICE * k) sum

pub IsSum-next : (prices : List ℤ) (k : ℕ) (sum x new : ℤ)
    → x ≡ get_or prices k (pos 0) → LiesWithin GREATEST_PRICE (get_or prices k (pos 0)) → new ≡ sum +ℤ x → IsSum prices k sum → IsSum prices (k + 1) new
IsSum-next prices k sum x new is w e h = record {
  value = e ∙ ap₂ ◌+ℤ◌ h.value is ∙ ap (λ n. int_total_below n (λ j. get_or prices j (pos 0))) (sym (add-one k));
  size = (let l = h.size.0 in let m = w.0 in omega (arith, ints, e, is), let l = h.size.1 in let m = w.1 in omega (arith, ints, e, is));
}

pub sum_is_total : (prices : List ℤ) (k : ℕ) (sum : ℤ) → k ≡ length prices → IsSum prices k sum → sum ≡ total prices
sum_is_total prices k sum e h = h.value ∙ ap (λ n. int_total_below n (λ j. get_or prices j (pos 0))) e ∙ sym (total-below prices)

-- ---- machine by machine
int_split : (a b : ℕ) (g : ℕ → ℤ) → int_total_below (a + b) g ≡ int_total_below a g +ℤ int_total_below b (λ k. g (a + k))
int_split a zero g = ap (λ n. int_total_below n g) (add-zero a) ∙ sym (+ℤ_idr (int_total_below a g))
int_split a (suc b) g =
    ap (λ n. int_total_below n g) (add-suc a b) ∙ ap (λ x. x +ℤ g (a + b)) (int_split a b g)
    ∙ +ℤ_assoc (int_total_below a g) (int_total_below b (λ k. g (a + k))) (g (a + b))

by_machine : (m n : ℕ) (g : ℕ → ℤ) → int_total_below (n * m) g ≡ int_total_below m (λ a. int_total_below n (λ k. g (a * n + k)))
by_machine zero n g = ap (λ k. int_total_below k g) (mul-zero n)
by_machine (suc m) n g =
    ap (λ k. int_total_below k g) (mul-suc n m) ∙ int_split (n * m) n g
    ∙ ap₂ ◌+ℤ◌ (by_machine m n g) (int_total_below-same n (λ k. g (n * m + k)) (λ k. g (m * n + k)) (λ k t. ap g (omega arith)))

pub total_is_all : (i : Instance) (row column : List ℤ) (r c : ℤ) → length row ≡ length i.jobs → length column ≡ length i.jobs * i.machines → r ≡ total row → c ≡ total column
    → (r +ℤ c) ≡ all_prices i (row_price row) (column_price i column)
total_is_all i row column r c rows columns r_is c_is = ap₂ ◌+ℤ◌ (r_is ∙ jobs) (c_is ∙ machines)
  where
    jobs : total row ≡ total (map (row_price row) (range_with_len 0 (length i.jobs)))
    jobs = total-below row ∙ ap (λ k. int_total_below k (row_price row)) rows ∙ sym (total_over_range (length i.jobs) (row_price row))

    machines : total column ≡ total (map (prices_on_machine i (column_price i column)) (range_with_len 0 i.machines))
    machines =
        total-below column ∙ ap (λ k. int_total_below k (λ j. get_or column j (pos 0))) columns ∙ by_machine i.machines (length i.jobs) (λ j. get_or column j (pos 0))
        ∙ int_total_below-same i.machines (λ a. int_total_below (length i.jobs) (λ k. get_or column (a * length i.jobs + k) (pos 0)))
        (prices_on_machine i (column_price i column)) (λ a t. sym (total_over_range (length i.jobs) (column_price i column a)))
        ∙ sym (total_over_range i.machines (prices_on_machine i (column_price i column)))

-- ---- compared
pub place_inside : (m count machines long : ℕ) → m < machines → long ≡ count * machines → m * count + count ≤ long
place_inside m count machines long t e = omega (arith, row_inside count machines m t, e)

-- the times of a job, machine by machine
needs_many : (i : Instance) (j : ℕ) → InClass i → kind_of i.class.env ≡ Unrelated → j < length i.jobs → length (job_at i j).needs ≡ i.machines
needs_many i j c k t = let shape = subst (λ e. HasShape e i.class.env i.machines (job_at i j).needs) k (c.conditions.jobs j no_job t).needs.shape in omega (arith, shape.0)

pub priced_from : (i : Instance) (row column : List ℤ) → InClass i → HasPricedShape i row column → All (λ p. p ≤ℤ pos 0) column → AreFair i row column → IsPriced i row column
priced_from i row column c h low fair = record {
  sum = h.sum;
  unrelated = h.unrelated;
  uncut = h.uncut;
  rows = h.rows;
  columns = h.columns;
  prices = record {
    low = λ m k in_m in_k. low (m * length i.jobs + k) (pos 0) (omega (arith, place_inside m (length i.jobs) i.machines (length column) in_m h.columns, in_k));
    fair = λ j m k in_j in_m in_k. fair j in_j m (omega (arith, in_m, needs_many i j c h.unrelated in_j)) k in_k;
  };
}

pub priced_shape : (i : Instance) (row column : List ℤ) → IsPriced i row column → HasPricedShape i row column
priced_shape i row column p = record { sum = p.sum; unrelated = p.unrelated; uncut = p.uncut; rows = p.rows; columns = p.columns }

pub priced_low : (i : Instance) (row column : List ℤ) → IsPriced i row column → All (λ p. p ≤ℤ pos 0) column
priced_low i row column p k d t =
    let place = p.prices.low (k / length i.jobs) (k % length i.jobs) (div_below k (length i.jobs) i.machines some inside) (mod_below k (length i.jobs) some) in
    subst (λ x. x ≤ℤ pos 0) (get_or_default column k (pos 0) d t) (subst (λ q. get_or column q (pos 0) ≤ℤ pos 0) (div-add-mod' k (length i.jobs)) place)
  where
    inside : k < i.machines * length i.jobs
    inside = omega (arith, t, p.columns)

    some : 0 < length i.jobs
    some = pos_of_ne-zero (λ z. let none = ap (λ n. i.machines * n) z in omega (arith, inside, none))

pub priced_fair : (i : Instance) (row column : List ℤ) → InClass i → IsPriced i row column → AreFair i row column
priced_fair i row column c p j in_j m in_m k in_k = p.prices.fair j m k in_j (omega (arith, in_m, needs_many i j c p.unrelated in_j)) in_k

-- one job more is fair, or it is not
module _ (i : Instance) (row column : List ℤ) (job : ℕ) (price : ℤ) (needs : List Need) (own : Job) (jobs : List Job)
    (same : jobs ≡ i.jobs) (needs_is : needs ≡ (get_or jobs job own).needs) (price_is : price ≡ get_or row job (pos 0)) (t : job < length jobs) where
  own_is : get_or jobs job own ≡ job_at i job
  own_is = get_or_default jobs job own no_job t ∙ ap (λ l. get_or l job no_job) same

  there : IsFair price column (length jobs) needs → IsFair (get_or row job (pos 0)) column (length i.jobs) (job_at i job).needs
  there h = subst₂ (λ p l. IsFair p column (length i.jobs) l) price_is (needs_is ∙ ap (λ (j : Job). j.needs) own_is) (subst (λ n. IsFair price column n needs) (ap length same) h)

  back : IsFair (get_or row job (pos 0)) column (length i.jobs) (job_at i job).needs → IsFair price column (length jobs) needs
  back h = subst (λ n. IsFair price column n needs) (sym (ap length same)) (subst₂ (λ p l. IsFair p column (length i.jobs) l) (sym price_is) (sym (needs_is ∙ ap (λ (j : Job). j.needs) own_is)) h)

  pub fair_refused : (IsTrue false ↔ IsFair price column (length jobs) needs) → (IsTrue false ↔ AreFair i row column)
  fair_refused unfair = (λ e. absurd (false≢true e), λ h. unfair.1 (back (h job (omega (arith, t, ap length same)))))

  pub fair_next : (IsTrue true ↔ IsFair price column (length jobs) needs) → ((j : ℕ) → j < job → IsFair (get_or row j (pos 0)) column (length i.jobs) (job_at i j).needs)
      → (j : ℕ) → j < job + 1 → IsFair (get_or row j (pos 0)) column (length i.jobs) (job_at i j).needs
  fair_next ok before = below_more (λ j. IsFair (get_or row j (pos 0)) column (length i.jobs) (job_at i j).needs) job before (there (ok.0 refl))

pub prices_are_worth : (i : Instance) (row column : List ℤ) (r c x : ℤ) (v : Frac)
    → IsPriced i row column → r ≡ total row → c ≡ total column → v.num ≡ x → x ≡ r +ℤ c → v.den ≡ pos 1 → IsWorth i (Prices row column) (Some v)
prices_are_worth i row column r c x v holds r_is c_is num sum den = (holds, (1, den, (num ∙ sum ∙ total_is_all i row column r c holds.rows holds.columns r_is c_is, refl)))
