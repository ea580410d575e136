-- One block of greatest ratio is joined behind the one that holds what is before it: some cheapest order has it there.
use Rattle.std.proofs.Common.{◌≡◌, ◌≢◌, ℕ, ◌+◌, ◌*◌, ◌<◌, ◌≤◌, inl, inr, cond, eqb, List, [], ◌∷◌, ◌++◌, get_or, map, All, Contains, IsPermutation, sum_by, le_trans, refl}
use Rattle.std.proofs.Common.{sym, ap, subst, ◌∙◌, arith, Bool, true, false}
use Rattle.std.specs.List.{concat, range_with_len}
use Rattle.std.proofs.lemmas.List.{append_assoc, append-nil}
use Rattle.std.proofs.lemmas.Bool.{eqb-true, eqb-false, ne_eqb}
use Rattle.std.proofs.lemmas.List.Folds.{concat-append}
use Rattle.std.proofs.lemmas.List.Sums.{sum_by-cons, sum_by-append}
use Rattle.std.proofs.lemmas.List.Elements.{All-nil, All-cons, All-head, All-tail, All-append, All-map, All-contains, Contains-append_left, Contains-append_right, Contains-append_cases}
use Rattle.std.proofs.lemmas.List.Sorted.{IsPermutation-sym, IsPermutation-trans, IsPermutation-cons, IsPermutation-middle, IsPermutation-map, IsPermutation-to_front}
use Rattle.std.proofs.lemmas.List.Sorted.{length_permutation, All-permutation}
use Rattle.std.proofs.lemmas.List.Kept.{AllPairs-cons}
use Rattle.msp_class.proofs.Sums.{AllPairs-head, AllPairs-tail, Contains-tail, cond-no, OnceBelow, OnceBelow-range, OnceBelow-permutation, OnceBelow-distinct, OnceBelow-contains}
use Rattle.msp_pieces.specs.BackToBack.{weighted_ends}
use Rattle.msp_pieces.proofs.lists.WeightedEnds.{weighted_ends-later, weighted_ends-append}
use Rattle.msp_trees.specs.Joining.{IsForward, IsBranch, IsLine, IsJoined, IsCheapest}
use Rattle.msp_trees.proofs.Lists.{pairs_across, pairs_exchanged, taken, parted, concat-permutation, concat-singles, All-concat, permutation_from_once, exchanged}
use Rattle.msp_pieces.proofs.lists.Pushes.{range-next}
use Rattle.msp_pieces.proofs.lists.Parts.{All-front, All-back, AllPairs-back}

-- ---- two neighbouring parts of a row change places
module _ (p w : ℕ → ℕ) where
  pub weighted_ends-exchanged : (t : ℕ) (ys us zs : List ℕ) → sum_by w ys * sum_by p us ≤ sum_by w us * sum_by p ys → weighted_ends p w t (us ++ (ys ++ zs)) ≤ weighted_ends p w t (ys ++ (us ++ zs))
  weighted_ends-exchanged t ys us zs h =
      let move : t + sum_by p us + sum_by p ys ≡ t + sum_by p ys + sum_by p us = omega arith in
      let us_then = weighted_ends-append p w (t + sum_by p us) ys zs in
      let ys_then = weighted_ends-append p w (t + sum_by p ys) us zs in
      let us_at = weighted_ends-append p w t us (ys ++ zs) in
      let ys_at = weighted_ends-append p w t ys (us ++ zs) in
      let same = ap (λ x. weighted_ends p w x zs) move in
      omega (arith, h, us_at, us_then, ys_at, ys_then, weighted_ends-later p w t (sum_by p us) ys, weighted_ends-later p w t (sum_by p ys) us, same)

  pub parts-exchanged : (xs ys us zs : List ℕ) → sum_by w ys * sum_by p us ≤ sum_by w us * sum_by p ys → weighted_ends p w 0 (xs ++ (us ++ (ys ++ zs))) ≤ weighted_ends p w 0 (xs ++ (ys ++ (us ++ zs)))
  parts-exchanged xs ys us zs h = omega
      (arith, weighted_ends-append p w 0 xs (us ++ (ys ++ zs)), weighted_ends-append p w 0 xs (ys ++ (us ++ zs)), weighted_ends-exchanged (0 + sum_by p xs) ys us zs h)

  -- a ratio no less than that of each block is no less than that of all together
  pub ratio-concat : (us : List ℕ) (blocks : List (List ℕ))
      → All (λ b. sum_by w b * sum_by p us ≤ sum_by w us * sum_by p b) blocks → sum_by w (concat blocks) * sum_by p us ≤ sum_by w us * sum_by p (concat blocks)
  ratio-concat us [] h = omega arith
  ratio-concat us (b ∷ blocks) h =
      let R : List ℕ → Type 0 = λ c. sum_by w c * sum_by p us ≤ sum_by w us * sum_by p c in
      let weight = ap (λ x. x * sum_by p us) (sum_by-append w b (concat blocks)) in
      omega (arith, All-head R b blocks h, ratio-concat us blocks (All-tail R b blocks h), weight, ap (λ x. sum_by w us * x) (sum_by-append p b (concat blocks)))

-- ---- branches
-- what is before each job of the branch is in it or where what is before its first job is
pub before_within : (before : ℕ → ℕ) (vs : List ℕ) (first : ℕ) (rest : List ℕ)
    → IsBranch before (first ∷ rest) → Contains vs (before first) → All (λ j. Contains (vs ++ first ∷ rest) (before j)) (first ∷ rest)
before_within before vs first rest k c =
    All-cons (λ j. Contains (vs ++ first ∷ rest) (before j)) first rest (Contains-append_left vs (first ∷ rest) (before first) c)
    (λ i d l. Contains-append_right vs (first ∷ rest) (before (get_or rest i d)) (k i d l))

-- a branch put behind one that holds what is before its first job
pub IsBranch-append : (before : ℕ → ℕ) (vs : List ℕ) (first : ℕ) (rest : List ℕ)
    → IsBranch before vs → IsBranch before (first ∷ rest) → Contains vs (before first) → IsBranch before (vs ++ first ∷ rest)
IsBranch-append before [] first rest h k c = absurd h
IsBranch-append before (v ∷ vs) first rest h k c =
    All-append (λ j. Contains (v ∷ (vs ++ first ∷ rest)) (before j)) vs (first ∷ rest)
    (λ i d l. Contains-append_left (v ∷ vs) (first ∷ rest) (before (get_or vs i d)) (h i d l))
    (before_within before (v ∷ vs) first rest k c)

-- ---- what is before each job
pub record IsTree (n : ℕ) (before p : ℕ → ℕ) : Type 0 where
  pub within : (j : ℕ) → j < n → before j < n + 1
  pub loose : (j : ℕ) → j < n → before j ≢ j
  pub start : (j : ℕ) → j < n → before n ≢ j
  pub time : p n ≡ 0
  pub forward : (order : List ℕ) × OnceBelow n order × IsForward before order

module _ (n : ℕ) (before p w : ℕ → ℕ) (tree : IsTree n before p) where
  -- the start stands first
  pub start_is_first : (x : ℕ) (xs : List ℕ) → OnceBelow (n + 1) (x ∷ xs) → IsForward before (x ∷ xs) → x ≡ n
  start_is_first x xs o f = by (eqb x n) refl
    where
      by : (b : Bool) → eqb x n ≡ b → x ≡ n
      by true e = eqb-true x n e
      by false e =
          let small : x < n = omega (arith, All-head (λ y. y < n + 1) x xs o.within, eqb-false x n e) in
          let later = Contains-tail x xs (before x) (OnceBelow-contains o (before x) (tree.within x small)) (λ s. tree.loose x small (sym s)) in
          absurd (All-contains (λ y. before x ≢ y) xs (before x) (AllPairs-head (λ a b. before a ≢ b) x xs f) later refl)

  -- ---- a block is joined behind another
  module _ (blocks : List (List ℕ)) (joined : IsJoined n before p w blocks) (vs : List ℕ) (first : ℕ) (rest : List ℕ) (others : List (List ℕ))
      (parts : IsPermutation blocks ((first ∷ rest) ∷ vs ∷ others)) (behind : Contains vs (before first))
      (ratio : All (λ b. ¬ Contains b n → sum_by w b * sum_by p (first ∷ rest) ≤ sum_by w (first ∷ rest) * sum_by p b) blocks) where
    abbrev us : List ℕ
    us = first ∷ rest

    abbrev Ratio : List ℕ → Type 0
    Ratio b = ¬ Contains b n → sum_by w b * sum_by p us ≤ sum_by w us * sum_by p b

    branches : All (IsBranch before) (us ∷ vs ∷ others)
    branches = All-permutation (IsBranch before) blocks (us ∷ vs ∷ others) parts joined.branches

    branch : IsBranch before us
    branch = All-head (IsBranch before) us (vs ∷ others) branches

    -- a line in which other blocks stand between the two
    module _ (front between back : List (List ℕ))
        (once : OnceBelow (n + 1) (concat ((front ++ vs ∷ between) ++ us ∷ back))) (forward : IsForward before (concat ((front ++ vs ∷ between) ++ us ∷ back)))
        (ratios : All (λ b. ¬ Contains b n → sum_by w b * sum_by p us ≤ sum_by w us * sum_by p b) between) where
      abbrev early : List ℕ
      early = concat front ++ vs

      abbrev middle : List ℕ
      middle = concat between

      flat : concat ((front ++ vs ∷ between) ++ us ∷ back) ≡ early ++ (middle ++ (us ++ concat back))
      flat = simp (concat-append, append_assoc)

      flat_joined : concat (front ++ (vs ++ us) ∷ (between ++ back)) ≡ early ++ (us ++ (middle ++ concat back))
      flat_joined = simp (concat-append, append_assoc)

      once_flat : OnceBelow (n + 1) (early ++ (middle ++ (us ++ concat back)))
      once_flat = subst (OnceBelow (n + 1)) flat once

      forward_flat : IsForward before (early ++ (middle ++ (us ++ concat back)))
      forward_flat = subst (IsForward before) flat forward

      apart : All (λ x. All (λ y. x ≢ y) (middle ++ (us ++ concat back))) early
      apart = pairs_across (λ x y. x ≢ y) early (middle ++ (us ++ concat back)) (OnceBelow-distinct once_flat)

      started : (l : List ℕ) → Contains l (before first) → (more : List ℕ) → OnceBelow (n + 1) (l ++ more) → IsForward before (l ++ more) → Contains l n
      started [] c more o f = absurd (omega (arith, c.1))
      started (x ∷ xs) c more o f = (0, omega arith, start_is_first x (xs ++ more) o f)

      -- the start is not in the middle
      not_in_middle : All (λ y. y ≢ n) middle
      not_in_middle k d l e =
          let here = started early (Contains-append_right (concat front) vs (before first) behind) (middle ++ (us ++ concat back)) once_flat forward_flat in
          All-front (λ y. n ≢ y) middle (us ++ concat back) (All-contains (λ x. All (λ y. x ≢ y) (middle ++ (us ++ concat back))) early n apart here) k d l (sym e)

      ratios_all : All (λ b. sum_by w b * sum_by p us ≤ sum_by w us * sum_by p b) between
      ratios_all k d l = ratios k d l (λ c. All-contains (λ y. y ≢ n) (get_or between k d) n (All-concat (λ y. y ≢ n) between not_in_middle k d l) c refl)

      -- nothing in the middle is before a job of the block
      free : All (λ u. All (λ y. before u ≢ y) middle) us
      free k d l j f m e =
          let distinct = OnceBelow-distinct once_flat in
          let c = before_within before vs first rest branch behind k d l in
          let y = get_or middle j f in
          elim (Contains-append_cases vs us (before (get_or us k d)) c) [
            | inl a ↦ All-front (λ z. before (get_or us k d) ≢ z) middle (us ++ concat back)
                (All-contains (λ x. All (λ z. x ≢ z) (middle ++ (us ++ concat back))) early (before (get_or us k d)) apart (Contains-append_right (concat front) vs (before (get_or us k d)) a)) j f m e
            | inr b ↦ All-contains (λ z. y ≢ z) us (before (get_or us k d))
                (All-front (λ z. y ≢ z) us (concat back) (pairs_across (λ x z. x ≢ z) middle (us ++ concat back) (AllPairs-back (λ x z. x ≢ z) early (middle ++ (us ++ concat back)) distinct) j f m))
                b (sym e)
          ]

      forward_joined : IsForward before (concat (front ++ (vs ++ us) ∷ (between ++ back)))
      forward_joined = subst (IsForward before) (sym flat_joined) (pairs_exchanged (λ a b. before a ≢ b) early middle us (concat back) forward_flat free)

      cheap_joined : weighted_ends p w 0 (concat (front ++ (vs ++ us) ∷ (between ++ back))) ≤ weighted_ends p w 0 (concat ((front ++ vs ∷ between) ++ us ∷ back))
      cheap_joined = omega (arith, ap (weighted_ends p w 0) flat, ap (weighted_ends p w 0) flat_joined, parts-exchanged p w early middle us (concat back) (ratio-concat p w us between ratios_all))

    -- a line in which the block stands earlier than what is before it is none
    never_before : (front between back : List (List ℕ)) → IsForward before (concat (front ++ us ∷ (between ++ vs ∷ back))) → ⊥
    never_before front between back f =
        let all = subst (IsForward before) (concat-append front (us ∷ (between ++ vs ∷ back))) f in
        let there : Contains (concat (between ++ vs ∷ back)) (before first) = subst (λ l. Contains l (before first)) (sym (concat-append between (vs ∷ back)))
        (Contains-append_right (concat between) (vs ++ concat back) (before first) (Contains-append_left vs (concat back) (before first) behind)) in
        All-contains (λ y. before first ≢ y) (rest ++ concat (between ++ vs ∷ back)) (before first)
        (AllPairs-head (λ a b. before a ≢ b) first (rest ++ concat (between ++ vs ∷ back)) (AllPairs-back (λ a b. before a ≢ b) (concat front) (us ++ concat (between ++ vs ∷ back)) all))
        (Contains-append_right rest (concat (between ++ vs ∷ back)) (before first) there) refl

    -- the line of the blocks before gives one of the blocks after
    line_joined : (new : List (List ℕ)) → IsPermutation ((vs ++ us) ∷ others) new
        → (most : ℕ) (line : List (List ℕ)) → IsLine before p w blocks most line → (line : List (List ℕ)) × IsLine before p w new most line
    line_joined new same most line h =
        let (a, b, m) = taken us (vs ∷ others) line (IsPermutation-trans (us ∷ vs ∷ others) blocks line (IsPermutation-sym blocks (us ∷ vs ∷ others) parts) h.same) in
        let (c, d, k) = taken vs others (a ++ b) (IsPermutation-sym (a ++ b) (vs ∷ others) m.same) in
        elim (parted a b c vs d k.is) [
          | inl (y, ea, ed) ↦
              let is : line ≡ (c ++ vs ∷ y) ++ us ∷ b = m.is ∙ ap (λ l. l ++ us ∷ b) ea in
              let once = OnceBelow-permutation joined.once (concat-permutation blocks line h.same) in
              let ratios = All-tail Ratio vs y (All-back Ratio c (vs ∷ y) (All-front Ratio (c ++ vs ∷ y) (us ∷ b) (subst (All Ratio) is (All-permutation Ratio blocks line h.same ratio)))) in
              let left : IsPermutation (c ++ (y ++ b)) others = subst (λ l. IsPermutation (c ++ l) others) ed k.same in (
                c ++ (vs ++ us) ∷ (y ++ b),
                record {
                  same = IsPermutation-trans new ((vs ++ us) ∷ others) (c ++ (vs ++ us) ∷ (y ++ b)) (IsPermutation-sym ((vs ++ us) ∷ others) new same)
                      (IsPermutation-trans ((vs ++ us) ∷ others) ((vs ++ us) ∷ (c ++ (y ++ b)))
                      (c ++ (vs ++ us) ∷ (y ++ b)) (IsPermutation-cons (vs ++ us) others (c ++ (y ++ b)) (IsPermutation-sym (c ++ (y ++ b)) others left))
                      (IsPermutation-sym (c ++ (vs ++ us) ∷ (y ++ b)) ((vs ++ us) ∷ (c ++ (y ++ b))) (IsPermutation-middle c (vs ++ us) (y ++ b))));
                  forward = forward_joined c y b (subst (λ l. OnceBelow (n + 1) (concat l)) is once) (subst (λ l. IsForward before (concat l)) is h.forward) ratios;
                  cheap = le_trans (cheap_joined c y b (subst (λ l. OnceBelow (n + 1) (concat l)) is once) (subst (λ l. IsForward before (concat l)) is h.forward) ratios)
                      (subst (λ l. weighted_ends p w 0 (concat l) ≤ most) is h.cheap);
                },
              )
          | inr (y, ec, eb) ↦ absurd (never_before a y d (subst (λ l. IsForward before (concat l)) (m.is ∙ ap (λ l. a ++ us ∷ l) eb) h.forward))
        ]

    pub joined-next : (new : List (List ℕ)) → IsPermutation ((vs ++ us) ∷ others) new → Contains (get_or new 0 []) n → IsJoined n before p w new
    joined-next new same start = record {
      once = OnceBelow-permutation joined.once (IsPermutation-trans (concat blocks) ((us ++ (vs ++ concat others))) (concat new) (concat-permutation blocks (us ∷ vs ∷ others) parts)
          (IsPermutation-trans (us ++ (vs ++ concat others)) (concat ((vs ++ us) ∷ others)) (concat new)
          (subst (IsPermutation (us ++ (vs ++ concat others))) (sym (append_assoc vs us (concat others))) (exchanged us vs (concat others)))
          (concat-permutation ((vs ++ us) ∷ others) new same)));
      branches = All-permutation (IsBranch before) ((vs ++ us) ∷ others) new same
          (All-cons (IsBranch before) (vs ++ us) others (IsBranch-append before vs first rest (All-head (IsBranch before) vs others (All-tail (IsBranch before) us (vs ∷ others) branches))
          branch behind) (All-tail (IsBranch before) vs others (All-tail (IsBranch before) us (vs ∷ others) branches)));
      start = start;
      cheap = λ order o f. let (line, h) = joined.cheap order o f in line_joined new same (weighted_ends p w 0 order) line h;
    }

  -- behind the start a row costs as much as from moment 0
  behind_start : (order : List ℕ) → weighted_ends p w 0 (n ∷ order) ≡ weighted_ends p w 0 order
  behind_start order = omega (arith, ap (λ t. w n * (0 + t) + weighted_ends p w (0 + t) order) tree.time)

  -- ---- the first blocks: the start, and each job
  pub joined-start : IsJoined n before p w ((n ∷ []) ∷ map (λ j. j ∷ []) (range_with_len 0 n))
  joined-start = record {
    once = subst (λ l. OnceBelow (n + 1) (n ∷ l)) (sym (concat-singles (range_with_len 0 n))) once;
    branches = All-cons (IsBranch before) (n ∷ []) (map (λ j. j ∷ []) (range_with_len 0 n)) (All-nil (λ j. Contains (n ∷ []) (before j)))
        (All-map (IsBranch before) (λ j. j ∷ []) (range_with_len 0 n) (λ k d l. All-nil (λ j. Contains (get_or (range_with_len 0 n) k d ∷ []) (before j))));
    start = (0, omega arith, refl);
    cheap = λ order o f. ((n ∷ []) ∷ map (λ j. j ∷ []) order, line order o f);
  }
    where
      once : OnceBelow (n + 1) (n ∷ range_with_len 0 n)
      once = OnceBelow-permutation (subst (OnceBelow (n + 1)) (sym (range-next (range_with_len 0 n ++ n ∷ []) (range_with_len 0 n) n refl refl)) (OnceBelow-range (n + 1)))
          (IsPermutation-to_front (range_with_len 0 n) n)

      line : (order : List ℕ) → OnceBelow n order → IsForward before order
          → IsLine before p w ((n ∷ []) ∷ map (λ j. j ∷ []) (range_with_len 0 n)) (weighted_ends p w 0 order) ((n ∷ []) ∷ map (λ j. j ∷ []) order)
      line order o f =
          let flat = concat-singles order in
          record {
            same = IsPermutation-cons (n ∷ [])
                _ _ (IsPermutation-map (λ j. j ∷ []) (range_with_len 0 n) order (permutation_from_once n (range_with_len 0 n) order (OnceBelow-range n) o));
            forward = subst (λ l. IsForward before (n ∷ l)) (sym flat) (AllPairs-cons (λ a b. before a ≢ b) n order (λ k d l. tree.start (get_or order k d) (o.within k d l)) f);
            cheap = omega (arith, ap (λ l. weighted_ends p w 0 (n ∷ l)) flat, behind_start order);
          }

  -- ---- the last block
  module _ (block : List ℕ) (joined : IsJoined n before p w (block ∷ [])) where
    only_line : (most : ℕ) (line : List (List ℕ)) → IsLine before p w (block ∷ []) most line → line ≡ block ∷ []
    only_line most [] h = absurd (omega (arith, length_permutation (block ∷ []) [] h.same))
    only_line most (b ∷ []) h = ap (λ z. z ∷ [])
        (All-head (λ z. z ≡ block) b [] (All-permutation (λ z. z ≡ block) (block ∷ []) (b ∷ []) h.same (All-cons (λ z. z ≡ block) block [] refl (All-nil (λ z. z ≡ block)))))
    only_line most (b ∷ c ∷ l) h = absurd (omega (arith, length_permutation (block ∷ []) (b ∷ c ∷ l) h.same))

    whole : concat (block ∷ []) ≡ block
    whole = append-nil block

    in_line : (order : List ℕ) → OnceBelow n order → IsForward before order → IsForward before block × (weighted_ends p w 0 block ≤ weighted_ends p w 0 order)
    in_line order o f =
        let (line, h) = joined.cheap order o f in
        let is = ap concat (only_line (weighted_ends p w 0 order) line h) ∙ whole in
        (subst (IsForward before) is h.forward, subst (λ l. weighted_ends p w 0 l ≤ weighted_ends p w 0 order) is h.cheap)

    once_block : OnceBelow (n + 1) block
    once_block = subst (OnceBelow (n + 1)) whole joined.once

    forward_block : IsForward before block
    forward_block = let (order, o, f) = tree.forward in (in_line order o f).0

  -- behind the start stand all jobs in a cheapest order
  pub cheapest : (block : List ℕ) → IsJoined n before p w (block ∷ []) → (order : List ℕ) × (block ≡ n ∷ order) × IsCheapest n before p w order
  cheapest [] joined = absurd (omega (arith, joined.start.1))
  cheapest (x ∷ order) joined =
      let first = start_is_first x order (once_block (x ∷ order) joined) (forward_block (x ∷ order) joined) in (
        order,
        ap (λ z. z ∷ order) first,
        record {
          once = OnceBelow-tail order (subst (λ z. OnceBelow (n + 1) (z ∷ order)) first (once_block (x ∷ order) joined));
          forward = AllPairs-tail (λ a b. before a ≢ b) x order (forward_block (x ∷ order) joined);
          least = λ other o f. omega (arith, (in_line (x ∷ order) joined other o f).1, ap (λ z. weighted_ends p w 0 (z ∷ order)) first, behind_start order);
        },
      )
    where
      OnceBelow-tail : (xs : List ℕ) → OnceBelow (n + 1) (n ∷ xs) → OnceBelow n xs
      OnceBelow-tail xs o = record {
        within = λ k d l. omega (arith, All-tail (λ y. y < n + 1) n xs o.within k d l, AllPairs-head (λ a b. a ≢ b) n xs (OnceBelow-distinct o) k d l);
        once = λ i l. omega (arith, o.once i (omega (arith, l)), sum_by-cons (λ y. cond (eqb y i) 1 0) n xs, cond-no 1 (ne_eqb n i (λ e. omega (arith, e, l))));
      }
