-- What is found keeps within its instance: every number of a job or a machine is one of the instance's, and levels and the tail are below
-- the number of jobs.
use Rattle.std.proofs.Common.{◌≡◌, ℕ, ◌+◌, ◌<◌, ◌≤◌, List, ◌++◌, length, get_or, take, Some, All, arith}
use Rattle.std.specs.List.{range_with_len}
use Rattle.std.proofs.lemmas.Option.{get_or_from_slice_get, slice_get_within}
use Rattle.std.proofs.lemmas.List.{length-take-le}
use Rattle.std.proofs.lemmas.List.Elements.{All-append, All-contains, All-map, All-take}
use Rattle.msp_class.proofs.Sums.{OnceBelow-range, OnceBelow-from_permutation}
use Rattle.msp_instance.specs.declared.Instance.{Instance}
use Rattle.msp_instance.specs.Conditions.{InClass}
use Rattle.msp_pieces.specs.declared.Frac.{Frac}
use Rattle.msp_cert.specs.declared.Proof.{Proof}
use Rattle.msp_cert.specs.declared.Proof.TheVariants.{Group, Machine, Line, Levels}
use Rattle.msp_cert.specs.Search.{AreLongestFirst, AreAllLevels, HasValue, IsFound, groups, machines, lines, tails, tried}
use Rattle.msp_cert.proofs.Tails.{levels_small}
use Rattle.msp_cert.proofs.Tried.{all_longest}

-- Only groups, machines, jobs and levels are found.
abbrev pub KeepsWithin : Instance → Proof → Type 0
KeepsWithin i (Group jobs) = (length jobs ≤ length i.jobs) × All (λ j. j < length i.jobs) jobs
KeepsWithin i (Machine machine) = machine < i.machines
KeepsWithin i (Line job) = job < length i.jobs
KeepsWithin i (Levels level tail) = (length level ≡ length i.jobs) × All (λ l. l < length i.jobs) level × (tail < length i.jobs)
KeepsWithin i _ = ⊥

below : (n : ℕ) → All (λ k. k < n) (range_with_len 0 n)
below n = (OnceBelow-range n).within

groups_within : (i : Instance) (longest : List ℕ) → AreLongestFirst i longest → All (KeepsWithin i) (groups i longest)
groups_within i longest h =
    All-map (KeepsWithin i) (λ k. Group (take (k + 1) longest)) (range_with_len 0 (length i.jobs)) (λ n d l.
    let k = get_or (range_with_len 0 (length i.jobs)) n d in
    let less : k < length i.jobs = below (length i.jobs) n d l in
    (omega (arith, less, length-take-le (k + 1) longest (omega (arith, less, all_longest i longest h))), All-take (λ j. j < length i.jobs) (k + 1) longest (OnceBelow-from_permutation h.all).within))

tails_within : (i : Instance) (level : List ℕ) → InClass i → AreAllLevels i level → All (KeepsWithin i) (tails i level)
tails_within i level c h = All-map (KeepsWithin i) (Levels level) (range_with_len 0 (length i.jobs)) (λ n d l. (h.each, levels_small i level c h, below (length i.jobs) n d l))

tried_within : (i : Instance) (longest level : List ℕ) → InClass i → AreLongestFirst i longest → AreAllLevels i level → All (KeepsWithin i) (tried i longest level)
tried_within i longest level c h levels =
    All-append (KeepsWithin i) (groups i longest) (machines i ++ (lines i ++ tails i level)) (groups_within i longest h)
    (All-append (KeepsWithin i) (machines i) (lines i ++ tails i level) (All-map (KeepsWithin i) Machine (range_with_len 0 i.machines) (below i.machines))
    (All-append (KeepsWithin i) (lines i) (tails i level) (All-map (KeepsWithin i) Line (range_with_len 0 (length i.jobs)) (below (length i.jobs)))
    (tails_within i level c levels)))

pub found_within : (i : Instance) (cost : Frac) (p : Proof) → InClass i → IsFound i cost (Some p) → KeepsWithin i p
found_within i cost p c f =
    let (k, at, holds, before) = f.first in
    let all = tried i f.longest f.level in
    All-contains (KeepsWithin i) all p (tried_within i f.longest f.level c f.jobs f.levels) (k, slice_get_within all k p at, get_or_from_slice_get all k p p at)

pub found_holds : (i : Instance) (cost : Frac) (p : Proof) → IsFound i cost (Some p) → HasValue i cost p
found_holds i cost p f = let (k, at, holds, before) = f.first in holds
