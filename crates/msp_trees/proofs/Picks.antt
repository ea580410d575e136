-- A block that is joined and the one that it is joined behind, as the code passes them.
use Rattle.std.proofs.Common.{◌≡◌, ◌≢◌, ℕ, zero, suc, ◌+◌, ◌-◌, ◌*◌, ◌<◌, ◌≤◌, inl, inr, Bool, false, if◌then◌else◌, List, [], ◌∷◌, ◌++◌, length, get_or, take, drop, below_more}
use Rattle.std.proofs.Common.{set, remove, map, All, Contains, IsPermutation, sum_by, refl, sym, ap, ap₂, subst, subst₂, ◌∙◌, arith, slice_index_or, true≢false, None}
use Rattle.std.specs.Prelude.{◌==◌, unwrap_or}
use Rattle.std.specs.List.{concat, list_any, slice_get, range_with_len}
use Rattle.std.proofs.lemmas.Bool.{cases_lt, eq-eqb, ne_eqb}
use Rattle.std.proofs.lemmas.List.{append_assoc, take_all, drop_more, take_more, get_or_default, get_or-set_same, get_or-set_other, set_split}
use Rattle.std.proofs.lemmas.Option.{unwrap_or-slice_get}
use Rattle.std.proofs.lemmas.List.Edits.{get_or-remove_below}
use Rattle.std.proofs.lemmas.List.Sums.{sum_by_more, get_or-le-sum_by}
use Rattle.std.proofs.lemmas.List.Elements.{All-head, All-contains, Contains-append_left, Contains-append_cases}
use Rattle.std.proofs.lemmas.List.Sorted.{IsPermutation-remove, IsPermutation-middle, IsPermutation-trans, IsPermutation-sym, IsPermutation-cons, Contains-permutation}
use Rattle.msp_class.proofs.Sums.{AllPairs-head, Contains-tail, OnceBelow, OnceBelow-distinct, OnceBelow-contains, length-OnceBelow}
use Rattle.msp_instance.specs.declared.Arc.{Arc}
use Rattle.msp_instance.specs.declared.Instance.{Instance}
use Rattle.msp_instance.specs.declared.Job.{Job}
use Rattle.msp_instance.specs.Instance.{no_job, no_need}
use Rattle.msp_instance.specs.Conditions.{Inner}
use Rattle.msp_instance.proofs.ListingLemmas.{list_any-from_Contains}
use Rattle.msp_pieces.specs.BackToBack.{time_at}
use Rattle.msp_trees.specs.Horn.{horn_class}
use Rattle.msp_trees.specs.Horn.{first_before, before, weight_at, time_of, GoesNext, IsJoining, JoinTo, single_blocks, IsHornOrder}
use Rattle.msp_trees.specs.Joining.{IsForward, IsBranch, IsJoined, AreJoined}
use Rattle.msp_trees.proofs.Lists.{pairs_across, taken, concat-permutation, All-concat}
use Rattle.msp_pieces.proofs.lists.Parts.{All-back, AllPairs-front, AllPairs-back}
use Rattle.msp_route.proofs.Turns.{turns_next}
use Rattle.msp_trees.proofs.Loads.{load, at_most}
use Rattle.msp_route.proofs.PlainJobs.{takes_time}
use Rattle.msp_trees.proofs.Joins.{IsTree, joined-start, joined-next, cheapest}
use Rattle.msp_trees.proofs.HornBest.{IsHornInstance, IsHornInstance-from_class, horn_row}
use Rattle.msp_route.proofs.BackToBackAnswer.{IsBestRow}
use Rattle.std.proofs.lemmas.List.Folds.{concat-append}
use Rattle.msp_class.specs.declared.sizes.TheConstants.{MOST_JOBS}
use Rattle.std.proofs.lemmas.List.Concat.{concat_is, length-flat_map}

-- ---- reading the instance
none_there : (jobs : List Job) (j : ℕ) → slice_get jobs j ≡ None → no_job ≡ get_or jobs j no_job
none_there jobs j e = ap (λ o. unwrap_or o no_job) (sym e) ∙ unwrap_or-slice_get jobs j no_job

pub time_past : (i : Instance) (j : ℕ) → slice_get i.jobs j ≡ None → 0 ≡ time_at i j
time_past i j e = ap (λ x. (slice_index_or x.needs 0 no_need).time) (none_there i.jobs j e)

pub weight_past : (i : Instance) (j : ℕ) → slice_get i.jobs j ≡ None → 0 ≡ weight_at i j
weight_past i j e = ap (λ x. x.weight) (none_there i.jobs j e)

-- ---- the loop over the arcs
pub before-found : (arcs : List Arc) (k start job b : ℕ) (d : Arc) → k < length arcs → (get_or arcs k d).after ≡ job → b ≡ first_before (drop k arcs) start job → (get_or arcs k d).before ≡ b
before-found arcs k start job b d l e h =
    sym (h ∙ ap (λ l. first_before l start job) (drop_more arcs k d l) ∙ ap (λ t. if t then (get_or arcs k d).before else first_before (drop (k + 1) arcs) start job) (eq-eqb _ _ e))

pub before-next : (arcs : List Arc) (k start job b : ℕ) (d : Arc)
    → k < length arcs → (get_or arcs k d).after ≢ job → b ≡ first_before (drop k arcs) start job → b ≡ first_before (drop (k + 1) arcs) start job
before-next arcs k start job b d l n h =
    h ∙ ap (λ l. first_before l start job) (drop_more arcs k d l) ∙ ap (λ t. if t then (get_or arcs k d).before else first_before (drop (k + 1) arcs) start job) (ne_eqb _ _ n)

-- ---- the loop over a block
pub appended-next : (start block new jobs : List ℕ) (k : ℕ) → new ≡ block ++ get_or jobs k 0 ∷ [] → k < length jobs → block ≡ start ++ take k jobs → new ≡ start ++ take (k + 1) jobs
appended-next start block new jobs k e l h = e ∙ ap (λ b. b ++ get_or jobs k 0 ∷ []) h ∙ append_assoc start (take k jobs) (get_or jobs k 0 ∷ []) ∙ ap (λ b. start ++ b) (sym (take_more jobs k 0 l))

pub sum-next : (f : ℕ → ℕ) (jobs : List ℕ) (k so_far now : ℕ) → k < length jobs → now ≡ f (get_or jobs k 0) → so_far ≡ sum_by f (take k jobs) → so_far + now ≡ sum_by f (take (k + 1) jobs)
sum-next f jobs k so_far now l e h = omega (arith, e, h, sum_by_more f jobs k 0 l)

-- ---- the search for a job's block
abbrev pub HasNot : List (List ℕ) → ℕ → ℕ → Type 0
HasNot blocks job k = (m : ℕ) → m < k → ¬ Contains (get_or blocks m []) job

pub not_here-next : (blocks : List (List ℕ)) (job k : ℕ) (block slice : List ℕ) (r : Bool) → k < length blocks
    → block ≡ get_or blocks k block → slice ≡ block → r ≡ list_any (λ y. y == job) slice → r ≡ false → HasNot blocks job k → HasNot blocks job (k + 1)
not_here-next blocks job k block slice r l at same found missed h = below_more (λ m. ¬ Contains (get_or blocks m []) job) k h (λ c.
    let here : get_or blocks k [] ≡ slice = get_or_default blocks k [] block l ∙ sym at ∙ sym same in
    true≢false (sym (found ∙ list_any-from_Contains slice job (subst (λ b. Contains b job) here c)) ∙ missed))

block_with : (blocks : List (List ℕ)) (job : ℕ) → Contains (concat blocks) job → (k : ℕ) × (k < length blocks) × Contains (get_or blocks k []) job
block_with [] job c = absurd (omega (arith, c.1))
block_with (b ∷ blocks) job c = elim (Contains-append_cases b (concat blocks) job c) [
  | inl h ↦ (0, omega arith, h)
  | inr h ↦ let (k, l, d) = block_with blocks job h in (suc k, omega (arith, l), d)
]

pub not_nowhere : (blocks : List (List ℕ)) (job k : ℕ) → Contains (concat blocks) job → length blocks ≤ k → HasNot blocks job k → ⊥
not_nowhere blocks job k c l h = let (m, s, d) = block_with blocks job c in h m (omega (arith, s, l)) d

-- ---- blocks
module _ (n : ℕ) (before p w : ℕ → ℕ) (blocks : List (List ℕ)) (joined : IsJoined n before p w blocks) where
  pub block_is_some : (k : ℕ) → k < length blocks → 0 < length (get_or blocks k [])
  block_is_some k l = some (get_or blocks k []) (joined.branches k [] l)
    where
      some : (b : List ℕ) → IsBranch before b → 0 < length b
      some [] h = absurd h
      some (x ∷ xs) h = omega arith

  pub block_is_few : (k : ℕ) → k < length blocks → length (get_or blocks k []) ≤ n + 1
  block_is_few k l =
      let all = ap length (concat_is blocks) ∙ length-flat_map (λ b. b) blocks in
      omega (arith, get_or-le-sum_by length blocks k [] l, all, length-OnceBelow joined.once)

  -- the start is in the first one alone
  pub no_start : (k : ℕ) → 1 ≤ k → k < length blocks → All (λ j. j < n) (get_or blocks k [])
  no_start k some l = by blocks joined.once joined.start k some l
    where
      by : (bs : List (List ℕ)) → OnceBelow (n + 1) (concat bs) → Contains (get_or bs 0 []) n → (k : ℕ) → 1 ≤ k → k < length bs → All (λ j. j < n) (get_or bs k [])
      by [] o s k some l = absurd (omega (arith, l))
      by (b ∷ bs) o s zero some l = absurd (omega arith)
      by (b ∷ bs) o s (suc k) some l =
          let apart = All-contains (λ x. All (λ y. x ≢ y) (concat bs)) b n (pairs_across (λ x y. x ≢ y) b (concat bs) (OnceBelow-distinct o)) s in
          let small = All-back (λ x. x < n + 1) b (concat bs) o.within in
          All-concat (λ j. j < n) bs (λ m d t. omega (arith, small m d t, apart m d t)) k [] (omega arith)

  module _ (tree : IsTree n before p) (place : ℕ) (later : 1 ≤ place) (inside : place < length blocks) where
    abbrev next : List ℕ
    next = get_or blocks place []

    abbrev rest : List (List ℕ)
    rest = remove blocks place

    parts : IsPermutation blocks (next ∷ rest)
    parts = IsPermutation-remove blocks place next inside (get_or_default blocks place [] next inside)

    -- what is before its first job is in another block
    pub before_elsewhere : Contains (concat rest) (before (get_or next 0 0))
    before_elsewhere = by next refl parts
      where
        by : (us : List ℕ) → us ≡ next → IsPermutation blocks (us ∷ rest) → Contains (concat rest) (before (get_or us 0 0))
        by [] e q = absurd (omega (arith, block_is_some place inside, ap length e))
        by (x ∷ xs) e q =
            let small : x < n = All-head (λ j. j < n) x xs (subst (All (λ j. j < n)) (sym e) (no_start place later inside)) in
            let there = Contains-permutation (concat blocks) ((x ∷ xs) ++ concat rest)
            (before x) (concat-permutation blocks ((x ∷ xs) ∷ rest) q) (OnceBelow-contains joined.once (before x) (tree.within x small)) in
            elim (Contains-append_cases (x ∷ xs) (concat rest) (before x) there) [
              | inl c ↦ absurd (not_inside x xs q small c)
              | inr c ↦ c
            ]
          where
            not_inside : (x : ℕ) (xs : List ℕ) → IsPermutation blocks ((x ∷ xs) ∷ rest) → x < n → Contains (x ∷ xs) (before x) → ⊥
            not_inside x xs q small c =
                let (order, o, f) = tree.forward in
                let (line, h) = joined.cheap order o f in
                let (a, b, m) = taken (x ∷ xs) rest line
                (IsPermutation-trans ((x ∷ xs) ∷ rest) blocks line (IsPermutation-sym blocks ((x ∷ xs) ∷ rest) q) h.same) in
                let whole = subst (IsForward before) (ap concat m.is ∙ concat-append a ((x ∷ xs) ∷ b)) h.forward in
                let own = AllPairs-front (λ u v. before u ≢ v) (x ∷ xs) (concat b) (AllPairs-back (λ u v. before u ≢ v) (concat a) ((x ∷ xs) ++ concat b) whole) in
                All-contains (λ y. before x ≢ y) xs (before x) (AllPairs-head (λ u v. before u ≢ v) x xs own) (Contains-tail x xs (before x) c (λ s. tree.loose x small (sym s))) refl

    -- joined behind that block
    pub joined_behind : (behind : ℕ) → behind < length rest → Contains (get_or rest behind []) (before (get_or next 0 0))
        → ((k : ℕ) → 1 ≤ k → k < length blocks → sum_by w (get_or blocks k []) * sum_by p next ≤ sum_by w next * sum_by p (get_or blocks k []))
        → IsJoined n before p w (set rest behind (get_or rest behind [] ++ next))
    joined_behind behind short holds ratio = by next refl parts holds
      where
        vs : List ℕ
        vs = get_or rest behind []

        first_kept : get_or rest 0 [] ≡ get_or blocks 0 []
        first_kept = get_or-remove_below blocks place [] 0 (omega (arith, later)) inside

        starts : (us : List ℕ) → Contains (get_or (set rest behind (vs ++ us)) 0 []) n
        starts us = elim (cases_lt 0 behind) [
          | inl past ↦ subst (λ b. Contains b n) (sym (get_or-set_other rest behind 0 (vs ++ us) [] (omega (arith, past)) ∙ first_kept)) joined.start
          | inr here ↦
              let zero_is : behind ≡ 0 = omega (arith, here) in
              let made : get_or (set rest behind (vs ++ us)) 0 [] ≡ vs ++ us = ap (λ m. get_or (set rest behind (vs ++ us)) m []) (sym zero_is) ∙ get_or-set_same rest behind (vs ++ us) [] short in
              let same : vs ≡ get_or blocks 0 [] = ap (λ m. get_or rest m []) zero_is ∙ first_kept in
              subst (λ b. Contains b n) (sym made) (Contains-append_left vs us n (subst (λ b. Contains b n) (sym same) joined.start))
        ]

        each : (us : List ℕ) → us ≡ next → (b : List ℕ) (k : ℕ) → k < length blocks → b ≡ get_or blocks k [] → ¬ Contains b n → sum_by w b * sum_by p us ≤ sum_by w us * sum_by p b
        each us f b k l e none = elim (cases_lt 0 k) [
          | inl some ↦ subst₂ (λ u c. sum_by w c * sum_by p u ≤ sum_by w u * sum_by p c) (sym f) (sym e) (ratio k some l)
          | inr zero_is ↦ let is : k ≡ 0 = omega (arith, zero_is) in absurd (none (subst (λ c. Contains c n) (sym (e ∙ ap (λ m. get_or blocks m []) is)) joined.start))
        ]

        by : (us : List ℕ) → us ≡ next → IsPermutation blocks (us ∷ rest) → Contains vs (before (get_or us 0 0)) → IsJoined n before p w (set rest behind (vs ++ us))
        by [] f q c = absurd (omega (arith, block_is_some place inside, ap length f))
        by (x ∷ xs) f q c =
            let us : List ℕ = x ∷ xs in
            joined-next n before p w tree blocks joined vs x xs (remove rest behind)
            (IsPermutation-trans blocks (us ∷ rest) (us ∷ vs ∷ remove rest behind)
            q (IsPermutation-cons us rest (vs ∷ remove rest behind) (IsPermutation-remove rest behind vs short (get_or_default rest behind [] vs short))))
            c
            (λ k d l. each us f (get_or blocks k d) k l (get_or_default blocks k d [] l))
            (set rest behind (vs ++ us))
            (subst (IsPermutation ((vs ++ us) ∷ remove rest behind)) (sym (set_split rest behind (vs ++ us) short)) (IsPermutation-sym
            (take behind rest ++ (vs ++ us) ∷ drop (suc behind) rest) ((vs ++ us) ∷ remove rest behind) (IsPermutation-middle (take behind rest) (vs ++ us) (drop (suc behind) rest))))
            (starts us)

-- ---- in an instance
module _ (i : Instance) (class : i.class ≡ horn_class) (inner : Inner i) (blocks : List (List ℕ)) (joined : AreJoined i blocks) where
  abbrev horn : IsHornInstance i
  horn = IsHornInstance-from_class i class inner

  pub block_takes_time : (k : ℕ) → 1 ≤ k → k < length blocks → 0 < time_of i (get_or blocks k [])
  block_takes_time k later l =
      let some = block_is_some (length i.jobs) (before i) (time_at i) (weight_at i) blocks joined k l in
      let job = no_start (length i.jobs) (before i) (time_at i) (weight_at i) blocks joined k later l 0 0 some in
      omega (arith, takes_time i horn.plain (get_or (get_or blocks k []) 0 0) job, get_or-le-sum_by (time_at i) (get_or blocks k []) 0 0 some)

  -- what is read at a place
  pub record IsBlock (k : ℕ) (slice : List ℕ) : Type 0 where
    pub is : slice ≡ get_or blocks k []
    pub some : 0 < length slice
    pub few : length slice ≤ MOST_JOBS + 1

  pub IsBlock-read : (k : ℕ) (block slice : List ℕ) → k < length blocks → block ≡ get_or blocks k block → slice ≡ block → IsBlock k slice
  IsBlock-read k block slice l at same =
      let is : slice ≡ get_or blocks k [] = same ∙ at ∙ get_or_default blocks k block [] l in
      record {
        is = is;
        some = omega (arith, ap length is, block_is_some (length i.jobs) (before i) (time_at i) (weight_at i) blocks joined k l);
        few = omega (arith, ap length is, block_is_few (length i.jobs) (before i) (time_at i) (weight_at i) blocks joined k l, inner.conditions.few);
      }

  module _ (place : ℕ) (later : 1 ≤ place) (inside : place < length blocks) (next rest : List ℕ)
      (others : List (List ℕ)) (taken_out : next ≡ get_or blocks place next) (same : rest ≡ next) (left : others ≡ remove blocks place) where
    abbrev is : next ≡ get_or blocks place []
    is = taken_out ∙ get_or_default blocks place next [] inside

    pub goes_behind : (seen : List (List ℕ)) (b : ℕ) → seen ≡ others → b ≡ before i (get_or rest 0 0) → Contains (concat seen) b
    goes_behind seen b e h = subst₂ (λ l b. Contains (concat l) b) (sym (e ∙ left)) (sym (h ∙ ap (λ l. before i (get_or l 0 0)) (same ∙ is)))
        (before_elsewhere (length i.jobs) (before i) (time_at i) (weight_at i) blocks joined horn.tree place later inside)

    pub joins_again : (seen : List (List ℕ)) (b behind : ℕ) → seen ≡ others → b ≡ before i (get_or rest 0 0) → GoesNext i blocks place → behind < length seen → Contains (get_or seen behind []) b
        → (vs us new : List ℕ) → vs ≡ get_or others behind vs → us ≡ next → new ≡ vs ++ us → IsJoining i blocks (set others behind new) place behind
    joins_again seen b behind e h goes short holds vs us new at again made =
        let short' = subst (λ l. behind < length l) (e ∙ left) short in
        record {
          later = later;
          inside = inside;
          next = goes;
          there = short';
          holds = subst₂ (λ l b. Contains (get_or l behind []) b) (e ∙ left) (h ∙ ap (λ l. before i (get_or l 0 0)) (same ∙ is)) holds;
          is = ap (λ l. set l behind new) left
              ∙ ap (set (remove blocks place) behind) (made ∙ ap₂ (λ x y. x ++ y) (at ∙ ap (λ l. get_or l behind vs) left ∙ get_or_default (remove blocks place) behind vs [] short') (again ∙ is));
        }

  pub joined_again : {new : List (List ℕ)} {place behind : ℕ} → IsJoining i blocks new place behind → AreJoined i new
  joined_again {new} {place} {behind} g = subst (AreJoined i) (sym g.is)
      (joined_behind (length i.jobs) (before i) (time_at i) (weight_at i) blocks joined horn.tree place g.later g.inside behind g.there g.holds
      (λ k from l. at_most (load i blocks place) (load i blocks k) (g.next k from l)))

-- ---- the first blocks
pub singles-next : (count k : ℕ) (new old : List (List ℕ)) (block : List ℕ) → new ≡ old ++ block ∷ [] → block ≡ k ∷ []
    → old ≡ (count ∷ []) ∷ map (λ (j : ℕ). j ∷ []) (range_with_len 0 k) → new ≡ (count ∷ []) ∷ map (λ (j : ℕ). j ∷ []) (range_with_len 0 (k + 1))
singles-next count k new old block e f h =
    let one : ℕ → List ℕ = λ j. j ∷ [] in
    e ∙ ap₂ (λ l b. l ++ b ∷ []) h f ∙ ap (λ l. (count ∷ []) ∷ l) (turns_next one k (map one (range_with_len 0 k)) (map one (range_with_len 0 k) ++ one k ∷ []) refl refl)

pub joined-begin : (i : Instance) (class : i.class ≡ horn_class) (inner : Inner i) (count : ℕ) (blocks : List (List ℕ))
    → count ≡ length i.jobs → blocks ≡ (count ∷ []) ∷ map (λ (j : ℕ). j ∷ []) (range_with_len 0 count) → AreJoined i blocks
joined-begin i class inner count blocks e h = subst (AreJoined i) (sym (h ∙ ap (λ n. (n ∷ []) ∷ map (λ (j : ℕ). j ∷ []) (range_with_len 0 n)) e))
    (joined-start (length i.jobs) (before i) (time_at i) (weight_at i) (IsHornInstance-from_class i class inner).tree)

-- ---- the last block
-- the jobs behind the start
abbrev pub behind_first : List ℕ → List ℕ
behind_first jobs = take (length jobs - 1) (drop 1 jobs)

pub horn_made : (i : Instance) (class : i.class ≡ horn_class) (inner : Inner i) (jobs seen : List ℕ) → AreJoined i (jobs ∷ [])
    → seen ≡ jobs → JoinTo i (single_blocks (length i.jobs)) (jobs ∷ []) → IsHornOrder i (behind_first seen) × IsBestRow i (behind_first seen)
horn_made i class inner jobs seen joined e join =
    let horn = IsHornInstance-from_class i class inner in
    let (order, f, o) = cheapest (length i.jobs) (before i) (time_at i) (weight_at i) horn.tree jobs joined in
    let is : behind_first seen ≡ order = ap behind_first (e ∙ f) ∙ take_all (length (length i.jobs ∷ order) - 1) order (omega arith) in
    (subst (IsHornOrder i) (sym is) (subst (λ l. JoinTo i (single_blocks (length i.jobs)) (l ∷ [])) f join), subst (IsBestRow i) (sym is) (horn_row i horn order o))
