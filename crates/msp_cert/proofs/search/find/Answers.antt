use Rattle.std.proofs.Common.{◌++◌, Option, List, ℕ, subst}
use Rattle.std.proofs.lemmas.Result.{IfOk-weaker}
use Rattle.msp_cert.specs.declared.Proof.{Proof}
use Rattle.msp_cert.specs.Search.{AreAllLevels, AreLongestFirst, HasValue, IsFirst, IsFound, groups, machines, lines, tails}
use Rattle.msp_cert.proofs.Tried.{first_append, first_stays}
use Rattle.msp_cert.proofs.SomeLevels.{some_levels}
use Rattle.msp_cert.proofs.search.find.Goals as goal

pub returns-in-Some : goal.returns-in-Some
returns-in-Some c =
    let i = c.args.inst.now in
    let (longest, jobs, first) = subst (λ (found : Option Proof). (x : List ℕ) × AreLongestFirst i x × IsFirst (HasValue i c.args.cost) (groups i x) found) c.in-Some.is c.in_ok-proof.ensures in
    let (level, levels) = some_levels i c.requires.class in
    record {
      longest = longest;
      level = level;
      jobs = jobs;
      levels = levels;
      first = first_stays (HasValue i c.args.cost) (groups i longest) (machines i ++ (lines i ++ tails i level)) c.in-Some.proof first;
    }

pub returns-in-None : goal.returns-in-None
returns-in-None c =
    let i = c.args.inst.now in
    let (longest, jobs, first) = subst (λ (found : Option Proof). (x : List ℕ) × AreLongestFirst i x × IsFirst (HasValue i c.args.cost) (groups i x) found) c.in-None.is c.in_ok-proof.ensures in
    IfOk-weaker c.other_with.result (λ found. (level : List ℕ) × AreAllLevels i level × IsFirst (HasValue i c.args.cost) (machines i ++ (lines i ++ tails i level)) found) (IsFound i c.args.cost)
    (λ found h. record {
      longest = longest;
      level = h.0;
      jobs = jobs;
      levels = h.1;
      first = first_append (HasValue i c.args.cost) (groups i longest) (machines i ++ (lines i ++ tails i h.0)) found first h.2;
    }) c.other_with.ensures
