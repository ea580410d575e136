-- The slots cut into segments: one segment more, and all of them.
use Rattle.std.proofs.Common.{◌≡◌, ◌≢◌, ℕ, zero, suc, ◌+◌, ◌-◌, ◌*◌, ◌/◌, ◌<◌, ◌≤◌, inl, inr, Bool, true, List, [], ◌∷◌, ◌++◌, length, get_or, slice_index, All, AllPairs, refl}
use Rattle.std.proofs.Common.{sym, ap, ap₂, subst, subst₂, ◌∙◌, arith, append_assoc}
use Rattle.std.specs.List.{AllAdjacentBelow, flat_map}
use Rattle.std.proofs.lemmas.Bool.{cases_lt}
use Rattle.std.proofs.lemmas.List.{length-append, get_or_append_left, get_or_push}
use Rattle.std.proofs.lemmas.List.Elements.{All-nil, All-cons, All-head, All-tail, All-append, All-push, All-weaker}
use Rattle.std.proofs.lemmas.List.Kept.{AllPairs-cons}
use Rattle.std.proofs.lemmas.List.Sums.{sum_by_push}
use Rattle.msp_class.proofs.Lists.{flat_map_push}
use Rattle.msp_instance.specs.declared.Instance.{Instance}
use Rattle.msp_instance.specs.Paths.{HasPath}
use Rattle.msp_pieces.proofs.feasible.Series.{AllPairs-append}
use Rattle.msp_pieces.specs.Segments.{LeadTo, AreSegments, segments_bound}
use Rattle.msp_lexical.specs.Slots.{AreSlots, IsEnd, IsInner, AreTops, AreCut, first_in, second_in, pairs, segment}
use Rattle.msp_lexical.proofs.TwoRows.{greatest, last_slot, each_leads}

-- ---- lists
pub pairs-push : (first second : ℕ → ℕ) (x d : ℕ) → pairs first second x (d + 1) ≡ pairs first second x d ++ first (x + d) ∷ second (x + d) ∷ []
pairs-push first second x zero = let same : x + 0 ≡ x = omega arith in let one : 0 + 1 ≡ suc 0 = omega arith in ap (pairs first second x) one ∙ ap (λ y. first y ∷ second y ∷ []) (sym same)
pairs-push first second x (suc d) =
    let more : suc d + 1 ≡ suc (d + 1) = omega arith in
    let same : (x + 1) + d ≡ x + suc d = omega arith in
    ap (pairs first second x) more ∙ ap (λ l. first x ∷ second x ∷ l) (pairs-push first second (x + 1) d ∙ ap (λ y. pairs first second (x + 1) d ++ first y ∷ second y ∷ []) same)

pub segment_from_pairs : (first second : ℕ → ℕ) (x d : ℕ) → pairs first second x d ++ first (x + d) ∷ [] ≡ segment first second x d
segment_from_pairs first second x zero = let same : x + 0 ≡ x = omega arith in ap (λ y. first y ∷ []) same
segment_from_pairs first second x (suc d) =
    let same : x + suc d ≡ (x + 1) + d = omega arith in
    ap (λ y. first x ∷ second x ∷ (pairs first second (x + 1) d ++ first y ∷ [])) same ∙ ap (λ l. first x ∷ second x ∷ l) (segment_from_pairs first second (x + 1) d)

length-segment : (first second : ℕ → ℕ) (x d : ℕ) → length (segment first second x d) ≡ 2 * d + 1
length-segment first second x zero = refl
length-segment first second x (suc d) = omega (arith, length-segment first second (x + 1) d)

adjacent-push : {X : Type 0} (R : X → X → Type 0) (xs : List X) (y : X) → AllAdjacentBelow R xs (length xs)
    → ((k : ℕ) (d : X) → k + 1 ≡ length xs → R (get_or xs k d) y) → AllAdjacentBelow R (xs ++ y ∷ []) (length (xs ++ y ∷ []))
adjacent-push R xs y h last k d l = elim (cases_lt (k + 1) (length xs)) [
  | inl less ↦ subst₂ R (sym (get_or_append_left xs (y ∷ []) d k (omega (arith, less)))) (sym (get_or_append_left xs (y ∷ []) d (k + 1) less)) (h k d less)
  | inr more ↦
      let n = length-append xs (y ∷ []) in
      let at : k + 1 ≡ length xs = omega (arith, more, l, n) in
      subst₂ R (sym (get_or_append_left xs (y ∷ []) d k (omega (arith, at)))) (sym (get_or_push xs y d (k + 1) (sym at))) (last k d at)
]

module _ (i : Instance) (two : i.machines ≡ 2) (slots : ℕ) (slot label first second : ℕ → ℕ) (leads : ℕ → ℕ → Bool) (s : AreSlots (length i.jobs) slots slot label first second leads)
    (paths : (j k : ℕ) → j < length i.jobs → k < length i.jobs → leads j k ≡ true → HasPath i.arcs j k) (top : ℕ → ℕ) (t : AreTops (length i.jobs) slots label first second top) where
  abbrev n : ℕ
  n = length i.jobs

  abbrev Ends : ℕ → Type 0
  Ends x = IsEnd n slots label first second top x

  abbrev Goes : ℕ → Type 0
  Goes x = IsInner n slots label second top x

  -- ---- the jobs of one segment
  abbrev IsMember : ℕ → ℕ → ℕ → Type 0
  IsMember x least j = (j < n) × (x ≤ slot j) × (top (slot j) ≡ least) × (least ≤ label j)

  record AreMembers (x d : ℕ) : Type 0 where
    all : All (IsMember x (top x)) (segment first second x d)
    last : top x ≡ top (x + d)
    apart : AllPairs (λ j k. j ≢ k) (segment first second x d)

  members : (d x : ℕ) → x + d < slots → Ends (x + d) → ((y : ℕ) → x ≤ y → y < x + d → Goes y) → AreMembers x d
  members zero x l e inner =
      let same : x + 0 ≡ x = omega arith in
      let f = s.first_in x (omega (arith, l)) in
      record {
        all = All-cons (IsMember x (top x)) (first x) [] (f.0, omega (arith, f.1), ap top f.1, omega (arith, (subst Ends same e).0)) (All-nil (IsMember x (top x)));
        last = ap top (sym same);
        apart = λ p q d m k. absurd (omega (arith, m, k));
      }
  members (suc d) x l e inner =
      let same : x + suc d ≡ (x + 1) + d = omega arith in
      let here : x < slots = omega (arith, l) in
      let f = s.first_in x here in
      let g = inner x (omega arith) (omega arith) in
      let b = s.second_in x here g.2 in
      let others = segment first second (x + 1) d in
      let rest = members d (x + 1) (omega (arith, l)) (subst Ends same e) (λ y from to. inner y (omega (arith, from)) (omega (arith, to))) in
      record {
        all = All-cons (IsMember x (top x)) (first x) (second x ∷ others) (f.0, omega (arith, f.1), ap top f.1, omega (arith, g.0, g.3, b.1))
            (All-cons (IsMember x (top x)) (second x) others (g.2, omega (arith, b.0), ap top b.0, omega (arith, g.0, g.3))
            (All-weaker (IsMember (x + 1) (top (x + 1))) (IsMember x (top x)) (λ j h. (h.0, omega (arith, h.1), h.2 ∙ sym g.0, omega (arith, h.3, g.0))) others rest.all));
        last = g.0 ∙ rest.last ∙ ap top (sym same);
        apart = AllPairs-cons (λ j k. j ≢ k) (first x) (second x ∷ others)
            (All-cons (λ k. first x ≢ k) (second x) others (λ same_job. absurd (omega (arith, b.1, ap label same_job)))
            (All-weaker (IsMember (x + 1) (top (x + 1))) (λ k. first x ≢ k) (λ k h same_job. absurd (omega (arith, h.1, ap slot same_job, f.1))) others rest.all))
            (AllPairs-cons (λ j k. j ≢ k) (second x) others
            (All-weaker (IsMember (x + 1) (top (x + 1))) (λ k. second x ≢ k) (λ k h same_job. absurd (omega (arith, h.1, ap slot same_job, b.0))) others rest.all) rest.apart);
      }

  -- ---- the slots before one cut into segments
  abbrev IsEarly : ℕ → ℕ → Type 0
  IsEarly from j = (j < n) × (slot j < from)

  abbrev LeadsOn : ℕ → ℕ → Type 0
  LeadsOn from z = (x : ℕ) → x < n → from ≤ slot x → top from ≤ label x → HasPath i.arcs z x

  pub record IsCut (from : ℕ) (segments : List (List ℕ)) : Type 0 where
    pub some : All (λ jobs. 0 < length jobs) segments
    pub early : All (λ jobs. All (IsEarly from) jobs) segments
    pub apart : AllPairs (λ j k. j ≢ k) (flat_map (λ jobs. jobs) segments)
    pub lead : AllAdjacentBelow (LeadTo i) segments (length segments)
    pub on : (k : ℕ) (d : List ℕ) → k + 1 ≡ length segments → All (LeadsOn from) (get_or segments k d)
    pub bound : segments_bound i segments ≡ from

  pub IsCut-start : IsCut 0 []
  IsCut-start = record {
    some = λ k d l. absurd (omega (arith, l));
    early = λ k d l. absurd (omega (arith, l));
    apart = λ a b d l k. absurd (omega (arith, k));
    lead = λ k d l. absurd (omega (arith, l));
    on = λ k d e. absurd (omega (arith, e));
    bound = refl;
  }

  All-flat : (P : ℕ → Type 0) (segments : List (List ℕ)) → All (λ jobs. All P jobs) segments → All P (flat_map (λ jobs. jobs) segments)
  All-flat P [] h = All-nil P
  All-flat P (jobs ∷ segments) h = All-append P jobs
      (flat_map (λ jobs. jobs) segments) (All-head (λ jobs. All P jobs) jobs segments h) (All-flat P segments (All-tail (λ jobs. All P jobs) jobs segments h))

  halves : (m l d : ℕ) → m ≡ 2 → l ≡ 2 * d + 1 → (l + (m - 1)) / m ≡ d + 1
  halves m l d e f = ap (λ m. (l + (m - 1)) / m) e ∙ omega (arith, f)

  module _ (from d : ℕ) (segments : List (List ℕ)) (h : IsCut from segments) (l : from + d < slots) (e : Ends (from + d)) (inner : (y : ℕ) → from ≤ y → y < from + d → Goes y) where
    abbrev new : List ℕ
    new = segment first second from d

    new_members : All (IsMember from (top from)) new
    new_members = (members d from l e inner).all

    top_same : top from ≡ top (from + d)
    top_same = (members d from l e inner).last

    -- the slots of the members are those of the segment
    new_early : All (IsEarly (from + d + 1)) new
    new_early = All-weaker (IsMember from (top from)) (IsEarly (from + d + 1)) early_one new new_members
      where
        early_one : (j : ℕ) → IsMember from (top from) j → IsEarly (from + d + 1) j
        early_one j m = elim (cases_lt (from + d) (slot j)) [
          | inl past ↦
              let most = greatest n slots slot label first second leads s (from + d) j l m.0 (omega (arith, past)) in
              let f = s.first_in (from + d) l in
              let same : j ≡ first (from + d) = s.distinct j (first (from + d)) m.0 f.0 (omega (arith, most, m.3, top_same, e.0)) in
              absurd (omega (arith, ap slot same, f.1, past))
          | inr within ↦ (m.0, omega (arith, within))
        ]

    -- they lead to the jobs of the next segment
    new_on : All (LeadsOn (from + d + 1)) new
    new_on p z b x c after high =
        let (in_z, from_z, same, high_z) = new_members p z b in
        let j = get_or new p z in
        let early_j = new_early p z b in
        paths j x in_z c (each_leads n slots slot label first second leads s top t (from + d) (omega (arith, after, (s.only x c).0))
        e j x in_z (omega (arith, early_j.1)) (same ∙ top_same) (omega (arith, high_z, top_same)) c (omega (arith, after)) high)

    lead_new : (k : ℕ) (a : List ℕ) → k + 1 ≡ length segments → LeadTo i (get_or segments k a) new
    lead_new k a at p z b q y c =
        let m = new_members q y c in
        h.on k a at p z b (get_or new q y) m.0 m.1 m.3

    apart_next : AllPairs (λ j k. j ≢ k) (flat_map (λ jobs. jobs) (segments ++ new ∷ []))
    apart_next = subst (AllPairs (λ j k. j ≢ k)) (sym (flat_map_push (λ jobs. jobs) segments new))
        (AllPairs-append (λ j k. j ≢ k) (flat_map (λ jobs. jobs) segments) new h.apart (members d from l e inner).apart (λ p z b q y c same.
        let before = All-flat (IsEarly from) segments h.early p z b in
        let m = new_members q y c in
        absurd (omega (arith, ap slot same, before.1, m.1))))

    pub IsCut-next : IsCut (from + d + 1) (segments ++ new ∷ [])
    IsCut-next = record {
      some = All-push (λ jobs. 0 < length jobs) segments new h.some (omega (arith, length-segment first second from d));
      early = All-push (λ jobs. All (IsEarly (from + d + 1)) jobs) segments new (All-weaker (λ jobs. All (IsEarly from) jobs) (λ jobs. All (IsEarly (from + d + 1)) jobs)
          (λ jobs a. All-weaker (IsEarly from) (IsEarly (from + d + 1)) (λ j b. (b.0, omega (arith, b.1))) jobs a) segments h.early) new_early;
      apart = apart_next;
      lead = adjacent-push (LeadTo i) segments new h.lead lead_new;
      on = last;
      bound = sum_by_push (λ jobs. (length jobs + (i.machines - 1)) / i.machines) segments new ∙ omega (arith, h.bound, halves i.machines (length new) d two (length-segment first second from d));
    }
      where
        last : (k : ℕ) (a : List ℕ) → k + 1 ≡ length (segments ++ new ∷ []) → All (LeadsOn (from + d + 1)) (get_or (segments ++ new ∷ []) k a)
        last k a at =
            let size = length-append segments (new ∷ []) in
            let place : k ≡ length segments = omega (arith, at, size) in
            subst (All (LeadsOn (from + d + 1))) (sym (get_or_push segments new a k (sym place))) new_on

  pub AreSegments-end : (from : ℕ) (segments : List (List ℕ)) → IsCut from segments → AreSegments i segments × (segments_bound i segments ≡ from)
  AreSegments-end from segments h = (
    record {
      some = h.some;
      inside = All-weaker (λ jobs. All (IsEarly from) jobs) (λ jobs. All (λ j. j < n) jobs) (λ jobs a. All-weaker (IsEarly from) (λ j. j < n) (λ j b. b.0) jobs a) segments h.early;
      apart = h.apart;
      lead = h.lead;
    },
    h.bound,
  )

  -- ---- some segments there are
  up_to : (fuel from : ℕ) (segments : List (List ℕ)) → slots ≤ from + fuel → from ≤ slots → IsCut from segments → (all : List (List ℕ)) × IsCut slots all
  up_to zero from segments f l h = let same : from ≡ slots = omega (arith, f, l) in (segments, subst (λ x. IsCut x segments) same h)
  up_to (suc fuel) from segments f l h = elim (cases_lt from slots) [
    | inr more ↦ let same : from ≡ slots = omega (arith, more, l) in (segments, subst (λ x. IsCut x segments) same h)
    | inl less ↦
        let (z, a, b, e, _, inner) = last_slot n slots slot label first second leads s top t from less in
        let here : from + (z - from) ≡ z = omega (arith, a) in
        up_to fuel (from + (z - from) + 1) (segments ++ segment first second from (z - from) ∷ []) (omega (arith, f)) (omega (arith, b, here))
        (IsCut-next from (z - from) segments h (omega (arith, b, here)) (subst Ends (sym here) e)
        (λ y after before. inner y after (omega (arith, before, here))))
  ]

  pub some_segments : (segments : List (List ℕ)) × AreSegments i segments × (segments_bound i segments ≡ slots)
  some_segments = let (all, h) = up_to slots 0 [] (omega arith) (omega arith) IsCut-start in let r = AreSegments-end slots all h in (all, r.0, r.1)

-- ---- the slots cut as the code cuts them
pub record CutTo (i : Instance) (labels seats tops : List ℕ) (slots : ℕ) (c : AreCut i labels seats tops slots) (from : ℕ) (segments : List (List ℕ)) : Type 0 where
  pub near : from ≤ slots
  pub cut : IsCut i c.two slots c.slot (slice_index labels) (first_in seats) (second_in seats) c.leads c.are_slots c.paths (slice_index tops) c.are_tops from segments

module _ (i : Instance) (labels seats tops : List ℕ) (slots : ℕ) (c : AreCut i labels seats tops slots) where
  abbrev label : ℕ → ℕ
  label = slice_index labels

  abbrev first : ℕ → ℕ
  first = first_in seats

  abbrev second : ℕ → ℕ
  second = second_in seats

  abbrev top : ℕ → ℕ
  top = slice_index tops

  pub CutTo-start : CutTo i labels seats tops slots c 0 []
  CutTo-start = record { near = omega arith; cut = IsCut-start i c.two slots c.slot label first second c.leads c.are_slots c.paths top c.are_tops }

  -- where the segment ends
  goes_or_ends : (x : ℕ) → x < slots → top x ≢ label (first x) → IsInner (length i.jobs) slots label second top x
  goes_or_ends x l differ = elim (c.are_tops x l) [ inl e ↦ absurd (differ e.0) | inr goes ↦ goes ]

  ends_here : (x : ℕ) → x < slots → top x ≡ label (first x) → IsEnd (length i.jobs) slots label first second top x
  ends_here x l same = elim (c.are_tops x l) [
    | inl e ↦ e
    | inr goes ↦ absurd (omega (arith, goes.0, goes.3, same, (c.are_slots.second_in x l goes.2).1))
  ]

  pub some_end : (from x : ℕ) → from < slots → slots ≤ x → ((y : ℕ) → from ≤ y → y < x → top y ≢ label (first y)) → ⊥
  some_end from x l past none =
      let last : slots - 1 < slots = omega (arith, l) in
      let goes = goes_or_ends (slots - 1) last (none (slots - 1) (omega (arith, l)) (omega (arith, l, past))) in
      omega (arith, goes.1)

  pub CutTo-next : (from last : ℕ) (segments new : List (List ℕ)) (jobs : List ℕ) → from ≤ last → last < slots → top last ≡ label (first last)
      → ((x : ℕ) → from ≤ x → x < last → top x ≢ label (first x)) → jobs ≡ segment first second from (last - from) → new ≡ segments ++ jobs ∷ []
      → CutTo i labels seats tops slots c from segments → CutTo i labels seats tops slots c (last + 1) new
  CutTo-next from last segments new jobs le l ends goes e f h = record {
    near = omega (arith, l);
    cut = subst₂ (IsCut i c.two slots c.slot label first second c.leads c.are_slots c.paths top c.are_tops) (ap (λ x. x + 1) same) (sym (f ∙ ap (λ js. segments ++ js ∷ []) e))
        (IsCut-next i c.two slots c.slot label first second c.leads c.are_slots c.paths top c.are_tops from (last - from)
        segments h.cut (omega (arith, same, l)) (subst (IsEnd (length i.jobs) slots label first second top) (sym same) (ends_here last l ends))
        (λ y after before. let early : y < last = omega (arith, same, before) in goes_or_ends y (omega (arith, early, l)) (goes y after early)));
  }
    where
      same : from + (last - from) ≡ last
      same = omega (arith, le)

  pub AreSegments-cut : (from : ℕ) (segments : List (List ℕ)) → slots ≤ from → CutTo i labels seats tops slots c from segments → AreSegments i segments × (segments_bound i segments ≡ slots)
  AreSegments-cut from segments l h =
      let same : from ≡ slots = omega (arith, l, h.near) in
      AreSegments-end i c.two slots c.slot label first second c.leads c.are_slots c.paths top c.are_tops slots segments
      (subst (λ x. IsCut i c.two slots c.slot label first second c.leads c.are_slots c.paths top c.are_tops x segments) same h.cut)

-- ---- the jobs of a segment, slot by slot
pub pairs-next : (first second : ℕ → ℕ) (from slot : ℕ) (old middle new : List ℕ) → from ≤ slot → middle ≡ old ++ first slot ∷ []
    → new ≡ middle ++ second slot ∷ [] → old ≡ pairs first second from (slot - from) → new ≡ pairs first second from (slot + 1 - from)
pairs-next first second from slot old middle new le e f h =
    let here : from + (slot - from) ≡ slot = omega (arith, le) in
    let next : slot - from + 1 ≡ slot + 1 - from = omega (arith, le) in
    f ∙ ap (λ xs. xs ++ second slot ∷ []) e ∙ append_assoc old (first slot ∷ []) (second slot ∷ [])
    ∙ ap₂ (λ xs y. xs ++ first y ∷ second y ∷ []) h (sym here) ∙ sym (pairs-push first second from (slot - from)) ∙ ap (pairs first second from) next

pub segment-made : (first second : ℕ → ℕ) (from slot last : ℕ) (old new : List ℕ)
    → from ≤ last → slot ≡ last → new ≡ old ++ first last ∷ [] → old ≡ pairs first second from (slot - from) → new ≡ segment first second from (last - from)
segment-made first second from slot last old new le e f h =
    let here : from + (last - from) ≡ last = omega (arith, le) in
    f ∙ ap₂ (λ xs y. xs ++ first y ∷ []) (h ∙ ap (λ s. pairs first second from (s - from)) e) (sym here) ∙ segment_from_pairs first second from (last - from)
