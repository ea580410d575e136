-- Lists of jobs that lead from one to the next.
use Rattle.std.proofs.Common.{◌≡◌, ◌≢◌, ℕ, ◌+◌, ◌-◌, ◌<◌, ◌≤◌, Bool, false, List, [], ◌∷◌, ◌++◌, length, get_or, take, sum_by, All, AllPairs, IsTrue, ◌↔◌, sym, ap, subst, subst₂, ◌∙◌, arith}
use Rattle.std.specs.List.{AllAdjacentBelow, flat_map}
use Rattle.std.proofs.lemmas.List.{get_or_default}
use Rattle.std.proofs.lemmas.Bool.{false≢true}
use Rattle.std.proofs.lemmas.List.Elements.{All-nil, All-head, All-tail, All-append, Contains-get_or}
use Rattle.msp_class.specs.declared.sizes.TheConstants.{MOST_JOBS}
use Rattle.msp_class.proofs.Lists.{flat_map-take_more}
use Rattle.msp_class.proofs.Sums.{sum_by-contains}
use Rattle.msp_instance.specs.declared.Instance.{Instance}
use Rattle.msp_instance.specs.declared.path_bits.Paths.{Paths}
use Rattle.msp_instance.specs.Paths.{ShowsPaths}
use Rattle.msp_pieces.specs.Segments.{LeadTo, AreSegments}
use Rattle.msp_cert.specs.declared.limits.TheConstants.{MOST_ENTRIES}
use Rattle.msp_cert.specs.Small.{ShowLeads}

pub flat_next : (lists : List (List ℕ)) (k : ℕ) (d old new : List ℕ)
    → k < length lists → new ≡ old ++ get_or lists k d → old ≡ flat_map (λ js. js) (take k lists) → new ≡ flat_map (λ js. js) (take (k + 1) lists)
flat_next lists k d old new t e h = e ∙ ap (λ l. l ++ get_or lists k d) h ∙ sym (flat_map-take_more (λ js. js) lists k d t)

pub flat_inside : (n : ℕ) (lists : List (List ℕ)) → All (λ js. All (λ j. j < n) js) lists → All (λ j. j < n) (flat_map (λ js. js) lists)
flat_inside n [] h = All-nil (λ j. j < n)
flat_inside n (js ∷ rest) h = All-append (λ j. j < n)
    js (flat_map (λ js. js) rest) (All-head (λ js. All (λ j. j < n) js) js rest h) (flat_inside n rest (All-tail (λ js. All (λ j. j < n) js) js rest h))

pub flat_small : (n : ℕ) (lists : List (List ℕ)) (flat shown : List ℕ)
    → n ≤ MOST_JOBS → All (λ js. All (λ j. j < n) js) lists → shown ≡ flat → flat ≡ flat_map (λ js. js) lists → All (λ j. j < MOST_JOBS) shown
flat_small n lists flat shown few h same is = subst (All (λ j. j < MOST_JOBS)) (sym (same ∙ is)) (λ k d t. omega (arith, few, flat_inside n lists h k d t))

module _ (i : Instance) (p : Paths) (shows : ShowsPaths i p) (a b : List ℕ) (in_a : All (λ j. j < length i.jobs) a) (in_b : All (λ j. j < length i.jobs) b) where
  pub leads_there : ShowLeads p a b → LeadTo i a b
  leads_there h x d t y e u = (shows (get_or a x d) (get_or b y e) (in_a x d t) (in_b y e u)).0 (h x d t y e u)

  pub leads_back : LeadTo i a b → ShowLeads p a b
  leads_back h x d t y e u = (shows (get_or a x d) (get_or b y e) (in_a x d t) (in_b y e u)).1 (h x d t y e u)

pub segments_decided : (i : Instance) (p : Paths) (lists : List (List ℕ)) (x : Bool)
    → All (λ js. 0 < length js) lists → All (λ js. All (λ j. j < length i.jobs) js) lists → AllPairs (λ j k. j ≢ k) (flat_map (λ js. js) lists)
    → ShowsPaths i p → (IsTrue x ↔ AllAdjacentBelow (ShowLeads p) lists (length lists)) → (IsTrue x ↔ AreSegments i lists)
segments_decided i p lists x some inside apart shows h = (
  λ e. record {
    some = some;
    inside = inside;
    apart = apart;
    lead = λ k d t. leads_there i p shows (get_or lists k d) (get_or lists (k + 1) d) (inside k d (omega (arith, t))) (inside (k + 1) d t) (h.0 e k d t);
  },
  λ s. h.1 (λ k d t. leads_back i p shows (get_or lists k d) (get_or lists (k + 1) d) (inside k d (omega (arith, t))) (inside (k + 1) d t) (s.lead k d t)),
)

pub not_leading : (p : Paths) (lists : List (List ℕ)) (k : ℕ) (a b first second : List ℕ) → 1 ≤ k → k < length lists → a ≡ get_or lists (k - 1) a
    → b ≡ get_or lists k b → first ≡ a → second ≡ b → (IsTrue false ↔ ShowLeads p first second) → (IsTrue false ↔ AllAdjacentBelow (ShowLeads p) lists (length lists))
not_leading p lists k a b first second some t at_a at_b is_a is_b never = (
  λ e. absurd (false≢true e),
  λ h. never.1 (subst₂ (ShowLeads p) (sym (is_a ∙ at_a)) (later ∙ sym (is_b ∙ at_b)) (h (k - 1) a (omega (arith, some, t)))),
)
  where
    later : get_or lists (k - 1 + 1) a ≡ get_or lists k b
    later = ap (λ n. get_or lists n a) (let e : k - 1 + 1 ≡ k = omega (arith, some) in e) ∙ get_or_default lists k a b t

pub short_lists : (lists : List (List ℕ)) → length lists + sum_by length lists ≤ MOST_ENTRIES → All (λ js. length js ≤ MOST_ENTRIES) lists
short_lists lists h k d t = omega (arith, h, sum_by-contains length lists (get_or lists k d) (Contains-get_or lists k d t))
