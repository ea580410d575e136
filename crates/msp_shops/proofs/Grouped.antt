-- The jobs that begin on a machine, read one after another and put into another order, are a group.
use Rattle.std.proofs.Common.{◌≡◌, ◌≢◌, ℕ, ◌+◌, ◌<◌, ◌≤◌, Bool, true, false, not, cond, if◌then◌else◌, List, [], ◌∷◌, ◌++◌, length, get_or, map, filter, All, AllPairs, Contains, add-one, zero-add}
use Rattle.std.proofs.Common.{IsPermutation, refl, sym, ap, ap₂, subst, ◌∙◌, arith}
use Rattle.std.specs.List.{range_with_len}
use Rattle.std.specs.List.Sorted.{IsStableBy}
use Rattle.std.proofs.lemmas.Bool.{eqb-true, eq-eqb}
use Rattle.std.proofs.lemmas.List.{map-append, length-map, get_or-map}
use Rattle.std.proofs.lemmas.List.Elements.{All-map, All-filter, filter_passes, filter-append}
use Rattle.std.proofs.lemmas.List.Kept.{AllPairs-filter}
use Rattle.std.proofs.lemmas.List.Filters.{length-filter_both}
use Rattle.std.proofs.lemmas.List.Sorted.{All-permutation, Contains-permutation, length_permutation}
use Rattle.msp_class.proofs.Sums.{OnceBelow-range, OnceBelow-contains, OnceBelow-distinct, length-OnceBelow, range_with_len_last, Contains-filter}
use Rattle.msp_instance.specs.declared.Instance.{Instance}
use Rattle.msp_instance.specs.Instance.{need_at}
use Rattle.msp_pieces.proofs.changes.Moves.{AllPairs-map}
use Rattle.msp_pieces.proofs.lists.Permuted.{AllPairs-permutation}
use Rattle.msp_shops.specs.declared.pass.JobTimes.{JobTimes}
use Rattle.msp_shops.specs.Order.{GoesBefore}
use Rattle.msp_shops.proofs.Sorted.{johnson_less, johnson_less-order, johnson_ties}
use Rattle.msp_shops.proofs.Stable.{stable_pairs, range_rises}
use Rattle.msp_shops.specs.Groups.{route_times, begins_on, IsTwoMachineShop, IsGroup}

module _ (i : Instance) (machine : ℕ) where
  -- one job more
  pub grouped-next : (new old : List JobTimes) (k : ℕ) → new ≡ old ++ (if begins_on i machine k then route_times i k ∷ [] else [])
      → old ≡ map (route_times i) (filter (begins_on i machine) (range_with_len 0 k)) → new ≡ map (route_times i) (filter (begins_on i machine) (range_with_len 0 (k + 1)))
  grouped-next new old k e so_far =
      let more : range_with_len 0 (k + 1) ≡ range_with_len 0 k ++ k ∷ [] = ap (range_with_len 0) (add-one k) ∙ range_with_len_last 0 k ∙ ap (λ n. range_with_len 0 k ++ n ∷ []) (zero-add k) in
      e ∙ ap₂ (λ a b. a ++ b) so_far (one (begins_on i machine k))
      ∙ sym (ap (λ l. map (route_times i) (filter (begins_on i machine) l)) more ∙ ap (map (route_times i)) (filter-append (begins_on i machine) (range_with_len 0 k) (k ∷ []))
      ∙ map-append (route_times i) (filter (begins_on i machine) (range_with_len 0 k)) (filter (begins_on i machine) (k ∷ [])))
    where
      one : (b : Bool) → (if b then route_times i k ∷ [] else []) ≡ map (route_times i) (cond b (k ∷ []) [])
      one true = refl
      one false = refl

  module _ (shop : IsTwoMachineShop i) (xs ys : List JobTimes) (are : xs ≡ map (route_times i) (filter (begins_on i machine) (range_with_len 0 (length i.jobs)))) (moved : IsPermutation xs ys) where
    abbrev numbers : List ℕ
    numbers = filter (begins_on i machine) (range_with_len 0 (length i.jobs))

    abbrev IsMember : JobTimes → Type 0
    IsMember t = (t ≡ route_times i t.job) × (t.job < length i.jobs) × ((need_at i t.job 0).machine ≡ machine)

    members : All IsMember (map (route_times i) numbers)
    members = All-map IsMember (route_times i) numbers (λ k d l. (
      refl,
      All-filter (begins_on i machine) (λ j. j < length i.jobs) (range_with_len 0 (length i.jobs)) (OnceBelow-range (length i.jobs)).within k d l,
      eqb-true _ _ (filter_passes (begins_on i machine) (range_with_len 0 (length i.jobs)) k d l),
    ))

    there : (j : ℕ) → j < length i.jobs → (need_at i j 0).machine ≡ machine → Contains (map (route_times i) numbers) (route_times i j)
    there j inside e =
        let (k, l, is) = Contains-filter (begins_on i machine) (range_with_len 0 (length i.jobs)) j (OnceBelow-contains (OnceBelow-range (length i.jobs)) j inside) (eq-eqb _ _ e) in
        (k, omega (arith, l, length-map numbers (route_times i)), get_or-map (route_times i) numbers k j (route_times i j) l ∙ ap (route_times i) is)

    once : AllPairs (λ a b. a.job ≢ b.job) (map (route_times i) numbers)
    once = AllPairs-map (λ a b. a.job ≢ b.job) (route_times i)
        numbers (AllPairs-filter (λ a b. a ≢ b) (begins_on i machine) (range_with_len 0 (length i.jobs)) (OnceBelow-distinct (OnceBelow-range (length i.jobs))))

    short : length (map (route_times i) numbers) ≤ length i.jobs
    short =
        let range = range_with_len 0 (length i.jobs) in
        omega (
          arith,
          length-map numbers (route_times i),
          length-filter_both (begins_on i machine) (λ j. not (begins_on i machine j)) (λ j. refl) range,
          length-OnceBelow (OnceBelow-range (length i.jobs)),
        )

    pub IsGroup-made : IsGroup i machine ys
    IsGroup-made =
        let move : IsPermutation (map (route_times i) numbers) ys = subst (λ l. IsPermutation l ys) are moved in
        record {
          members = All-permutation IsMember (map (route_times i) numbers) ys move members;
          all = λ j l e. Contains-permutation (map (route_times i) numbers) ys (route_times i j) move (there j l e);
          once = AllPairs-permutation (λ (a b : JobTimes). a.job ≢ b.job) (λ a b n e. n (sym e)) (map (route_times i) numbers) ys move once;
          few = omega (arith, length_permutation (map (route_times i) numbers) ys move, short, shop.few);
        }

  -- a stable sort by Johnson's order leaves ties in order of number
  pub ties-made : (xs ys : List JobTimes) → xs ≡ map (route_times i) (filter (begins_on i machine) (range_with_len 0 (length i.jobs)))
      → AllPairs (GoesBefore (λ t. t.first) (λ t. t.second)) ys → IsStableBy (johnson_less (λ (t : JobTimes). t.first) (λ t. t.second)) xs ys
      → AllPairs (λ s t. GoesBefore (λ u. u.first) (λ u. u.second) t s → s.job < t.job) ys
  ties-made xs ys are sorted stable a b d l m other =
      let lt = johnson_less (λ (t : JobTimes). t.first) (λ t. t.second) in
      let rises : AllPairs (λ (s t : JobTimes). s.job < t.job) xs = subst (AllPairs (λ (s t : JobTimes). s.job < t.job)) (sym are)
      (AllPairs-map (λ (s t : JobTimes). s.job < t.job) (route_times i) (filter (begins_on i machine) (range_with_len 0 (length i.jobs)))
      (AllPairs-filter (λ s t. s < t) (begins_on i machine) (range_with_len 0 (length i.jobs)) (range_rises (length i.jobs)))) in
      stable_pairs (λ (s t : JobTimes). s.job < t.job) lt (johnson_less-order (λ (t : JobTimes). t.first) (λ t. t.second)) xs ys rises stable a b d l m
      (johnson_ties (λ (t : JobTimes). t.first) (λ t. t.second) (get_or ys a d) (get_or ys b d) (sorted a b d l m) other)
