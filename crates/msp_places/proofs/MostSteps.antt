-- Steps of the search for the job that costs least, and of the answer.
use Rattle.std.proofs.Common.{◌≡◌, ℕ, ◌+◌, ◌<◌, ◌≤◌, ◌⊎◌, inl, inr, List, [], ◌∷◌, ◌++◌, length, get_or, take, ℤ, pos, ◌<ℤ◌, All, refl, sym, ap, ap₂, subst, subst₂, ◌∙◌}
use Rattle.std.proofs.Common.{arith, slice_index_or, zero-add}
use Rattle.std.proofs.lemmas.Int.{ints}
use Rattle.std.proofs.lemmas.List.{take_all, take_more}
use Rattle.std.proofs.lemmas.List.FromFn.{map-range_with_len_more}
use Rattle.std.proofs.lemmas.List.Elements.{All-push}
use Rattle.msp_class.specs.declared.sizes.TheConstants.{GREATEST_MULTIPLE}
use Rattle.msp_class.specs.declared.environments.EnvKind.TheVariants.{Uniform}
use Rattle.msp_class.specs.declared.class.Crit.TheVariants.{Fmax}
use Rattle.msp_class.specs.Env.{kind_of}
use Rattle.msp_instance.specs.declared.Job.{Job}
use Rattle.msp_instance.specs.declared.Instance.{Instance}
use Rattle.msp_instance.specs.Conditions.{Inner}
use Rattle.msp_instance.specs.Multiples.{IsLeastOfAll}
use Rattle.msp_pieces.specs.declared.Piece.{Piece}
use Rattle.msp_pieces.specs.declared.Schedule.{Schedule}
use Rattle.msp_pieces.specs.Within.{HasSmallCost, Within}
use Rattle.msp_pieces.proofs.costs.Small.{small_costs}
use Rattle.msp_route.specs.Bounds.{IsBestAnswer}
use Rattle.msp_places.specs.declared.place.Place.{Place}
use Rattle.msp_places.specs.declared.most.Candidate.{Candidate}
use Rattle.msp_places.specs.Classes.{places_most_class}
use Rattle.msp_places.specs.Places.{lengths_of, AreEarliestPlaces, place_at}
use Rattle.msp_places.specs.Placed.{piece_in, placed}
use Rattle.msp_places.specs.Most.{cost_in, CostsLess, IsCheapest, IsOrderByCost, ArePlacedByCost, IsByCost}
use Rattle.msp_places.specs.Search.{Precedes, IsCandidate, IsBestOf}
use Rattle.msp_pieces.proofs.lists.InTurn.{length_is}
use Rattle.msp_places.proofs.PlaceFacts.{IsPlacesInstance-from, common_time_within, lengths_short}
use Rattle.msp_places.proofs.PlacedJobs.{placed_is_answer, ends_bounded}
use Rattle.msp_places.proofs.MostBest.{job, own, most_is_best}
use Rattle.msp_places.specs.Bounds.{greatest_end}

-- ---- costs are small over the unit
abbrev idle : ℕ → Schedule
idle unit = record { unit = pos unit; pieces = [] }

idle_is_within : (i : Instance) → kind_of i.class.env ≡ Uniform → (unit : ℕ) → 1 ≤ unit → unit ≤ GREATEST_MULTIPLE → Within i (idle unit)
idle_is_within i kind unit some few = record {
  unit = (omega (arith, ints, some), omega (arith, ints, few));
  few = omega arith;
  moments = λ k d l. absurd (omega (arith, l));
  scaled = λ e. absurd (cc);
}

pub small_in : (i : Instance) → Inner i → i.class ≡ places_most_class → (unit : ℕ) → 1 ≤ unit → unit ≤ GREATEST_MULTIPLE → (u : ℤ) (jobs : List Job) (k : ℕ) (j : Job)
    → u ≡ pos unit → jobs ≡ i.jobs → j ≡ get_or jobs k j → k < length i.jobs → HasSmallCost u j
small_in i inner class unit some few u jobs k j e same is l =
    subst₂ HasSmallCost (sym e) (sym (is ∙ ap (λ xs. get_or xs k j) same)) (small_costs i (idle unit) inner (idle_is_within i (ap (λ c. kind_of c.env) class) unit some few) k j l)

-- ---- the cheapest of some jobs
abbrev IsLess : ℤ → ℕ → ℤ → ℕ → Type 0
IsLess c j d k = (c <ℤ d) ⊎ ((c ≡ d) × (j ≤ k))

less-trans : (c : ℤ) (j : ℕ) (d : ℤ) (k : ℕ) (e : ℤ) (l : ℕ) → IsLess c j d k → IsLess d k e l → IsLess c j e l
less-trans c j d k e l (inl a) (inl b) = inl (omega (arith, ints, a, b))
less-trans c j d k e l (inl a) (inr b) = inl (subst (λ x. c <ℤ x) b.0 a)
less-trans c j d k e l (inr a) (inl b) = inl (subst (λ x. x <ℤ e) (sym a.0) b)
less-trans c j d k e l (inr a) (inr b) = inr (a.0 ∙ b.0, omega (arith, a.1, b.1))

less-same : (c : ℤ) (j : ℕ) → IsLess c j c j
less-same c j = inr (refl, omega arith)

module _ (i : Instance) (unit end : ℕ) (jobs : List ℕ) where
  -- a candidate that precedes one is less than what this is less than
  before_all : (c d : Candidate) (k : ℕ) → c.cost ≡ cost_in i unit end c.job → d.cost ≡ cost_in i unit end d.job → Precedes c d → CostsLess i unit end d.job k
      → CostsLess i unit end c.job k
  before_all c d k e f h less = less-trans (cost_in i unit end c.job) c.job (cost_in i unit end d.job) d.job (cost_in i unit end k) k (subst₂ (λ x y. IsLess x c.job y d.job) e f h) less

  one_more : (P : ℕ → Type 0) (k : ℕ) → k < length jobs → All P (take k jobs) → P (get_or jobs k 0) → All P (take (k + 1) jobs)
  one_more P k l old new = subst (All P) (sym (take_more jobs k 0 l)) (All-push P (take k jobs) (get_or jobs k 0) old new)

  pub best_first : (c : Candidate) → 0 < length jobs → IsCandidate i unit end jobs 0 c → IsBestOf i unit end jobs 1 c
  best_first c l h = record {
    early = omega (arith, h.place_is);
    is = record { place_is = refl; job = h.job ∙ ap (λ x. get_or jobs x 0) (sym h.place_is); cost = h.cost };
    cheapest = one_more (CostsLess i unit end c.job) 0 l (λ a d m. absurd (omega (arith, m))) (subst (CostsLess i unit end c.job) h.job (less-same (cost_in i unit end c.job) c.job));
  }

  pub best_next : (k : ℕ) (best next c : Candidate) → k < length jobs → IsBestOf i unit end jobs k best → IsCandidate i unit end jobs k next
      → (c ≡ best) ⊎ (c ≡ next) → Precedes c best → Precedes c next → IsBestOf i unit end jobs (k + 1) c
  best_next k best next c l h n either p q = record {
    early = elim either [ inl e ↦ omega (arith, ap (λ (x : Candidate). x.place) e, h.early) | inr e ↦ omega (arith, ap (λ (x : Candidate). x.place) e, n.place_is) ];
    is = is;
    cheapest = one_more (CostsLess i unit end c.job) k l (λ a d m. before_all c best (get_or (take k jobs) a d) is.cost h.is.cost p (h.cheapest a d m))
        (before_all c next (get_or jobs k 0) is.cost n.cost q (subst (CostsLess i unit end next.job) n.job (less-same (cost_in i unit end next.job) next.job)));
  }
    where
      is : IsCandidate i unit end jobs c.place c
      is = elim either [
        | inl e ↦ subst (λ x. IsCandidate i unit end jobs x.place x) (sym e) h.is
        | inr e ↦ subst (λ x. IsCandidate i unit end jobs x.place x) (sym e) (record { place_is = refl; job = n.job ∙ ap (λ x. get_or jobs x 0) (sym n.place_is); cost = n.cost })
      ]

  pub best_of_all : (k : ℕ) (c : Candidate) → k ≡ length jobs → IsBestOf i unit end jobs k c
      → (c.place < length jobs) × IsCheapest i unit end jobs (get_or jobs c.place 0)
  best_of_all k c e h = (omega (arith, h.early, e), subst₂ (λ xs j. IsCheapest i unit end xs j) (take_all k jobs (omega (arith, e))) h.is.job h.cheapest)

-- ---- the answer
-- the unit, as the code finds it
pub common_read : (i : Instance) (speeds : List ℕ) (unit : ℕ) → speeds ≡ i.speeds → IsLeastOfAll speeds unit → IsLeastOfAll i.speeds unit
common_read i speeds unit e h = subst (λ l. IsLeastOfAll l unit) e h

pub record IsMostAnswer (i : Instance) (s : Schedule) : Type 0 where
  pub best : IsBestAnswer i s
  pub by_cost : IsByCost i s

pub IsMostAnswer-from : (i : Instance) → i.class ≡ places_most_class → Inner i → (unit : ℕ) (u : ℤ) (pieces : List Piece)
    → IsLeastOfAll i.speeds unit → unit ≤ GREATEST_MULTIPLE → u ≡ pos unit → ArePlacedByCost i unit pieces → IsMostAnswer i (record { unit = u; pieces = pieces })
IsMostAnswer-from i class inner unit u pieces common few e p =
    let h = IsPlacesInstance-from Fmax i class inner in
    let turn = job i h inner unit common few p.places p.earliest p.order p.by_cost in
    let apart = own i h inner unit common few p.places p.earliest p.order p.by_cost in
    subst₂ (λ x y. IsMostAnswer i (record { unit = x; pieces = y })) (sym e) (sym p.are) (record {
      best = record {
        best = most_is_best i h inner unit common few p.places p.earliest p.order p.by_cost;
        answer = placed_is_answer Fmax i h unit common few p.places p.earliest turn (λ k. k) apart;
      };
      by_cost = record { unit = unit; unit_is = refl; common = common; pieces = subst (ArePlacedByCost i unit) p.are p };
    })

-- as the code makes the pieces
pub placed_by_cost : (i : Instance) (unit : ℕ) (places listed : List Place) (order slice : List ℕ) (pieces : List Piece) → AreEarliestPlaces i unit places
    → listed ≡ places → IsOrderByCost i unit listed order → slice ≡ order
    → pieces ≡ placed (length slice) listed (λ k. slice_index_or slice k 0) (λ k. k) → ArePlacedByCost i unit pieces
placed_by_cost i unit places listed order slice pieces earliest same by same_order all = record { places = places; order = order; earliest = earliest; by_cost = o; are = are }
  where
    o : IsOrderByCost i unit places order
    o = subst (λ p. IsOrderByCost i unit p order) same by

    are : pieces ≡ placed (length i.jobs) places (λ k. get_or order k 0) (λ k. k)
    are = all ∙ ap (λ x. placed (length x) listed (λ k. get_or x k 0) (λ k. k)) same_order ∙ ap (λ p. placed (length order) p (λ k. get_or order k 0) (λ k. k)) same
        ∙ ap (λ n. placed n places (λ k. get_or order k 0) (λ k. k)) (length_is (length i.jobs) order o.all)

-- the places and the order, as the code passes them
pub places_many : (i : Instance) (unit : ℕ) (places listed : List Place) → AreEarliestPlaces i unit places → listed ≡ places → length listed ≡ length i.jobs
places_many i unit places listed earliest same = ap length same ∙ earliest.count

pub places_soon : (i : Instance) → i.class ≡ places_most_class → Inner i → (unit : ℕ) (places listed : List Place) → IsLeastOfAll i.speeds unit → unit ≤ GREATEST_MULTIPLE
    → AreEarliestPlaces i unit places → listed ≡ places → All (λ p. p.end ≤ greatest_end) listed
places_soon i class inner unit places listed common few earliest same =
    let h = IsPlacesInstance-from Fmax i class inner in
    subst (All (λ p. p.end ≤ greatest_end)) (sym same)
    (ends_bounded (lengths_of i unit) (lengths_short i h.speeds (common_time_within Fmax i h) unit common few) (length i.jobs) places h.few earliest)

pub order_many : (i : Instance) (unit : ℕ) (places listed : List Place) (order slice : List ℕ) → AreEarliestPlaces i unit places → listed ≡ places
    → IsOrderByCost i unit listed order → slice ≡ order → length listed ≡ length slice
order_many i unit places listed order slice earliest same o same_order = places_many i unit places listed earliest same ∙ sym (length_is (length i.jobs) order o.all) ∙ sym (ap length same_order)

-- the pieces with one more
pub piece_next : (places : List Place) (job number : ℕ → ℕ) (k : ℕ) (new old : List Piece) (p : Piece) → new ≡ old ++ p ∷ []
    → p ≡ piece_in (job k) (place_at places (number k)) → old ≡ placed k places job number → new ≡ placed (k + 1) places job number
piece_next places job number k new old p e is so_far =
    e ∙ ap₂ (λ l x. l ++ x ∷ []) so_far is ∙ sym (map-range_with_len_more (λ n. piece_in (job n) (place_at places (number n))) 0 k k (zero-add k))
