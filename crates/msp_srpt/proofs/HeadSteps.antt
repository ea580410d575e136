-- One job more, by rising head: it begins at the end of the piece before it, or at its head where that is later.
use Rattle.std.proofs.Common.{◌≡◌, ℕ, zero, suc, ◌+◌, ◌*◌, ◌<◌, ◌≤◌, inl, inr, max, List, [], ◌∷◌, ◌++◌, length, get_or, map, take, All, AllPairs, IsPermutation, refl, sym, ap, subst, ◌∙◌, add-one, arith}
use Rattle.std.specs.List.{range_with_len}
use Rattle.std.proofs.lemmas.Bool.{cases_lt}
use Rattle.std.proofs.lemmas.List.{length-map, length-take-le, map-append, get_or_append_left, get_or_push, take_more, take_all}
use Rattle.std.proofs.lemmas.List.Elements.{All-push}
use Rattle.msp_class.specs.declared.sizes.TheConstants.{MOST_JOBS, GREATEST}
use Rattle.msp_class.proofs.Sums.{OnceBelow-from_permutation, length-OnceBelow}
use Rattle.msp_instance.specs.declared.Instance.{Instance}
use Rattle.msp_pieces.specs.declared.Piece.{Piece}
use Rattle.msp_pieces.specs.Piece.{start, finish, no_piece}
use Rattle.msp_pieces.specs.BackToBack.{piece, time_at}
use Rattle.msp_route.specs.Heads.{head_in, AreHeads}
use Rattle.msp_route.proofs.OneInstances.{IsOneInstance, is_short}
use Rattle.msp_srpt.specs.EqualHeads.{piece_number, end_before, HeadsBefore, RunInOrder}

-- the first k jobs have their pieces, the last of which ends at the moment
pub record HaveRun (i : Instance) (heads order : List ℕ) (k moment : ℕ) (pieces : List Piece) : Type 0 where
  pub within : k ≤ length order
  pub jobs : map (λ p. p.job) pieces ≡ take k order
  pub whole : All (λ p. p ≡ piece p.job (start p) (start p + time_at i p.job)) pieces
  pub early : (m : ℕ) → m < k → start (piece_number pieces m) ≡ max (end_before pieces m) (head_in heads (piece_number pieces m).job)
  pub now : moment ≡ end_before pieces k
  pub soon : moment ≤ GREATEST * (MOST_JOBS + 2 + k)

pub HaveRun-start : (i : Instance) (heads order : List ℕ) → HaveRun i heads order 0 0 []
HaveRun-start i heads order = record { within = omega arith; jobs = refl; whole = λ k d l. absurd (omega (arith, l)); early = λ m l. absurd (omega (arith, l)); now = refl; soon = omega arith }

-- how many pieces there are
pub have_length : (i : Instance) (heads order : List ℕ) (k moment : ℕ) (pieces : List Piece) → HaveRun i heads order k moment pieces → length pieces ≡ k
have_length i heads order k moment pieces h = sym (length-map pieces (λ p. p.job)) ∙ ap length h.jobs ∙ length-take-le k order h.within

-- a piece more changes none of those before
before_kept : (old : List Piece) (p : Piece) (m : ℕ) → m ≤ length old → end_before (old ++ p ∷ []) m ≡ end_before old m
before_kept old p zero l = refl
before_kept old p (suc m) l = ap finish (get_or_append_left old (p ∷ []) no_piece m (omega (arith, l)))

module _ (i : Instance) (heads order : List ℕ) (k moment : ℕ) (old : List Piece) (h : HaveRun i heads order k moment old) (some : k < length order)
    (job from to : ℕ) (is : job ≡ get_or order k 0) (begins : from ≡ max moment (head_in heads job))
    (ends : to ≡ from + time_at i job) (low : head_in heads job ≤ GREATEST * (MOST_JOBS + 2)) (short : time_at i job ≤ GREATEST) where
  abbrev last : Piece
  last = piece job from to

  abbrev new : List Piece
  new = old ++ last ∷ []

  many : length old ≡ k
  many = have_length i heads order k moment old h

  here : piece_number new k ≡ last
  here = get_or_push old last no_piece k many

  early_now : (m : ℕ) → m < k + 1 → start (piece_number new m) ≡ max (end_before new m) (head_in heads (piece_number new m).job)
  early_now m l = elim (cases_lt m k) [
    | inl less ↦
        let inside : m < length old = omega (arith, less, many) in
        rw (get_or_append_left old (last ∷ []) no_piece m inside, before_kept old last m (omega (arith, inside))) (h.early m less)
    | inr more ↦
        let e : m ≡ k = omega (arith, l, more) in
        rw (e, here, before_kept old last k (omega (arith, many)), sym h.now) begins
  ]

  pub HaveRun-next : HaveRun i heads order (k + 1) to new
  HaveRun-next = record {
    within = omega (arith, some);
    jobs = map-append (λ p. p.job) old (last ∷ []) ∙ ap (λ l. l ++ job ∷ []) h.jobs ∙ ap (λ j. take k order ++ j ∷ []) is ∙ sym (take_more order k 0 some);
    whole = All-push (λ p. p ≡ piece p.job (start p) (start p + time_at i p.job)) old last h.whole (ap (piece job from) ends);
    early = early_now;
    now = ap finish (sym here) ∙ ap (end_before new) (sym (add-one k));
    soon = omega (arith, ends, begins, low, short, h.soon);
  }

pub RunInOrder-end : (i : Instance) (heads order : List ℕ) (k moment : ℕ) (pieces : List Piece)
    → length order ≤ k → IsPermutation (range_with_len 0 (length i.jobs)) order → AllPairs (HeadsBefore heads) order
    → HaveRun i heads order k moment pieces → RunInOrder i heads pieces
RunInOrder-end i heads order k moment pieces all same rising h =
    let jobs = h.jobs ∙ take_all k order all in
    record {
      all = subst (IsPermutation (range_with_len 0 (length i.jobs))) (sym jobs) same;
      rising = subst (AllPairs (HeadsBefore heads)) (sym jobs) rising;
      whole = h.whole;
      early = λ m l. h.early m (omega (arith, l, have_length i heads order k moment pieces h));
    }

-- at the numbers as the code passes them
module _ (i : Instance) (one : IsOneInstance i) (heads order : List ℕ) (are : AreHeads i heads) (all : IsPermutation (range_with_len 0 (length i.jobs)) order) (k : ℕ) (some : k < length order) where
  abbrev job : ℕ
  job = get_or order k 0

  pub job_inside : job < length i.jobs
  job_inside = (OnceBelow-from_permutation all).within k 0 some

  pub head_inside : job < length heads
  head_inside = omega (arith, job_inside, are.each)

  head_low : head_in heads job ≤ GREATEST * (MOST_JOBS + 2)
  head_low = are.small job 0 head_inside

  module _ (moment : ℕ) (old : List Piece) (h : HaveRun i heads order k moment old) (from length_is : ℕ) (begins : from ≡ max moment (head_in heads job)) (lasts : length_is ≡ time_at i job) where
    short : time_at i job ≤ GREATEST
    short = is_short i one job job_inside

    pub ends_soon : from + length_is ≤ (2 * MOST_JOBS + 3) * GREATEST
    ends_soon = omega (arith, begins, lasts, head_low, short, h.soon, some, length-OnceBelow (OnceBelow-from_permutation all), one.few)

    pub have_next : (new : List Piece) → new ≡ old ++ piece job from (from + length_is) ∷ [] → HaveRun i heads order (k + 1) (from + length_is) new
    have_next new e = subst (HaveRun i heads order (k + 1) (from + length_is))
        (sym e) (HaveRun-next i heads order k moment old h some job from (from + length_is) refl begins (omega (arith, lasts)) head_low short)
