-- One more piece at the end, and what it adds to what the jobs have run.
use Rattle.std.proofs.Common.{◌≡◌, ℕ, ◌+◌, ◌-◌, ◌<◌, ◌≤◌, inl, inr, min, Bool, true, false, cond, List, [], ◌∷◌, ◌++◌, length, get_or, take, ℤ, pos, nat_abs, All, refl, sym, ap, ◌∙◌, arith}
use Rattle.std.specs.Prelude.{◌==◌}
use Rattle.std.proofs.lemmas.Bool.{cases_lt, cond_both, eqb-true}
use Rattle.std.proofs.lemmas.List.{take_more, take_all}
use Rattle.std.proofs.lemmas.List.Elements.{All-push}
use Rattle.std.proofs.lemmas.List.Quantifiers.{all_pairs_push}
use Rattle.msp_class.proofs.Sums.{sum_by-append, sum_by-cons, sum_by-same, sum_by-none}
use Rattle.msp_instance.specs.declared.Instance.{Instance}
use Rattle.msp_instance.specs.Instance.{job_at}
use Rattle.msp_pieces.specs.declared.Piece.{Piece}
use Rattle.msp_pieces.specs.Piece.{start, finish, IsTimed}
use Rattle.msp_pieces.proofs.lists.Parts.{All-front, All-back, AllPairs-front, AllPairs-last}
use Rattle.msp_srpt.specs.Shortest.{run_before}
use Rattle.msp_srpt.specs.Running.{IsLaid, IsNew, HasBegun, HasRun, Runs}

-- how long the piece runs for job j before t
abbrev pub run_of : ℕ → ℕ → Piece → ℕ
run_of t j p = cond (p.job == j) (min (nat_abs p.to) t - nat_abs p.from) 0

run-push : (ps : List Piece) (p : Piece) (t j : ℕ) → run_before (ps ++ p ∷ []) t j ≡ run_before ps t j + run_of t j p
run-push ps p t j = omega (arith, sum_by-append (run_of t j) ps (p ∷ []), sum_by-cons (run_of t j) p [])

-- after the last end nothing more runs
pub run-settled : (ps : List Piece) (t u j : ℕ) → All (λ p. finish p ≤ t) ps → t ≤ u → run_before ps u j ≡ run_before ps t j
run-settled ps t u j early l = sum_by-same (run_of u j) (run_of t j) ps (λ k d m.
    let q = get_or ps k d in ap (λ x. cond (q.job == j) (x - start q) 0) (omega (arith, early k d m, l)))

-- before it is released no job runs
pub run-unborn : (i : Instance) (t j : ℕ) (ps : List Piece) → All (λ p. (job_at i p.job).release ≤ start p) ps → t ≤ (job_at i j).release → run_before ps t j ≡ 0
run-unborn i t j ps released l = sum_by-none (run_of t j) ps (λ k d m. cond_both ((get_or ps k d).job == j) _ 0 (λ n. n ≡ 0)
    (λ e. omega (arith, released k d m, l, ap (λ x. (job_at i x).release) (eqb-true (get_or ps k d).job j e))) (λ _. refl))

-- no piece of the job ends at t, where the last one does not
new_before : (i : Instance) (a t : ℕ) (ps : List Piece) → IsLaid i t ps → IsNew a t ps → All (λ q. q.job ≡ a → finish q < t) ps
new_before i a t ps h new k d l same = elim (cases_lt (k + 1) (length ps)) [
  | inl more ↦ omega (arith, h.order k (k + 1) d (omega arith) more, (h.timed (k + 1) d more).lasts, h.early (k + 1) d more)
  | inr none ↦
      let q = get_or ps k d in
      let is : ps ≡ take k ps ++ q ∷ [] = sym (take_all (k + 1) ps (omega (arith, none))) ∙ take_more ps k d l in
      elim (cases_lt (finish q) t) [ inl g ↦ g | inr g ↦ absurd (new (take k ps) q is same ((h.timed k d l).to ∙ ap pos (omega (arith, g, h.early k d l)))) ]
]

module _ (i : Instance) (a t e : ℕ) (small : a < length i.jobs) (released : (job_at i a).release ≤ t) (lasts : t < e) where
  -- a piece more, behind all of the job
  behind : (ps : List Piece) (s : ℕ) (from to : ℤ) → from ≡ pos s → to ≡ pos e → s ≤ t → (job_at i a).release ≤ s → IsLaid i t ps
      → All (λ p. finish p ≤ s) ps → All (λ p. p.job ≡ a → finish p < s) ps
      → IsLaid i e (ps ++ record { job = a; op = 0; machine = 0; from = from; to = to } ∷ [])
  behind ps s from to begins is before born h early new =
      let p : Piece = record { job = a; op = 0; machine = 0; from = from; to = to } in
      let begin : nat_abs from ≡ s = ap nat_abs begins in
      let end : nat_abs to ≡ e = ap nat_abs is in
      let long : nat_abs from < nat_abs to = omega (arith, lasts, before, begin, end) in
      record {
        timed = All-push IsTimed ps p h.timed (record { from = begins ∙ ap pos (sym begin); to = is ∙ ap pos (sym end); lasts = long });
        place = All-push (λ p. (p.job < length i.jobs) × (p.op ≡ 0) × (p.machine ≡ 0)) ps p h.place (small, refl, refl);
        released = All-push (λ p. (job_at i p.job).release ≤ start p) ps p h.released (omega (arith, born, begin));
        early = All-push (λ p. finish p ≤ e) ps p (λ k d l. omega (arith, h.early k d l, lasts)) (omega (arith, end));
        order = all_pairs_push (λ p q. finish p ≤ start q) ps p h.order (λ k d l. omega (arith, early k d l, begin));
        whole = all_pairs_push (λ p q. p.job ≡ q.job → finish p < start q) ps p h.whole (λ k d l s. omega (arith, new k d l s, begin));
      }

  -- a piece of its own
  fresh : (ps : List Piece) (to : ℤ) → to ≡ pos e → IsLaid i t ps → IsNew a t ps → HasRun i a t e ps (ps ++ record { job = a; op = 0; machine = 0; from = pos t; to = to } ∷ [])
  fresh ps to is h new = record {
    laid = behind ps t (pos t) to refl is (omega arith) released h h.early (new_before i a t ps h new);
    more = λ v j. run-push ps _ v j ∙ ap (λ x. run_before ps v j + cond (a == j) (min x v - t) 0) (ap nat_abs is);
  }

  -- the last piece goes on
  longer : (front : List Piece) (q : Piece) (to : ℤ) → to ≡ pos e → q.job ≡ a → q.to ≡ pos t
      → IsLaid i t (front ++ q ∷ []) → HasRun i a t e (front ++ q ∷ []) (front ++ record { job = a; op = 0; machine = 0; from = q.from; to = to } ∷ [])
  longer front q to is same ends h =
      let p : Piece = record { job = a; op = 0; machine = 0; from = q.from; to = to } in
      let last : finish q ≡ t = ap nat_abs ends in
      let timed = All-back IsTimed front (q ∷ []) h.timed 0 q (omega arith) in
      let R : Piece → Piece → Type 0 = λ p q. p.job ≡ q.job → finish p < start q in
      record {
        laid = behind front (start q) q.from to timed.from is (omega (arith, last, timed.lasts))
            (rw same at (All-back (λ p. (job_at i p.job).release ≤ start p) front (q ∷ []) h.released 0 q (omega arith))) (record {
              timed = All-front IsTimed front (q ∷ []) h.timed;
              place = All-front (λ p. (p.job < length i.jobs) × (p.op ≡ 0) × (p.machine ≡ 0)) front (q ∷ []) h.place;
              released = All-front (λ p. (job_at i p.job).release ≤ start p) front (q ∷ []) h.released;
              early = All-front (λ p. finish p ≤ t) front (q ∷ []) h.early;
              order = AllPairs-front (λ p q. finish p ≤ start q) front (q ∷ []) h.order;
              whole = AllPairs-front R front (q ∷ []) h.whole;
            }) (AllPairs-last (λ p q. finish p ≤ start q) front q h.order) (λ k d l s. AllPairs-last R front q h.whole k d l (s ∙ sym same));
        more = λ v j.
            let grown = grows (a == j) v (start q) (finish q) (nat_abs to) last timed.lasts (ap nat_abs is) in
            omega (arith, run-push front p v j, run-push front q v j, grown, ap (λ x. cond (x == j) (min (finish q) v - start q) 0) same);
      }
    where
      grows : (b : Bool) (v s f w : ℕ) → f ≡ t → s < f → w ≡ e → cond b (min w v - s) 0 ≡ cond b (min f v - s) 0 + cond b (min e v - t) 0
      grows true v s f w last l end = omega (arith, last, l, lasts, end)
      grows false v s f w last l end = refl

-- as the code has it
pub Runs-laid : (a t e : ℕ) (begin from to : ℤ) (old mid new : List Piece) → t < e → HasBegun a t begin old mid
    → from ≡ begin → to ≡ pos e → new ≡ mid ++ record { job = a; op = 0; machine = 0; from = from; to = to } ∷ [] → Runs a t e old new
Runs-laid a t e begin from to old mid new lasts begun first is made i small released laid = rw (made, first) (elim begun [
  | inl h ↦ rw (h.1, h.0) (fresh i a t e small released lasts old to is laid h.2)
  | inr h ↦ rw (h.4, h.1) (longer i a t e small released lasts mid h.0 to is h.2 h.3 (rw h.1 at laid))
])
