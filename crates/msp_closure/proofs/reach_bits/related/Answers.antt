-- The goals of `related` that are proved by lemmas.
use Rattle.msp_closure.specs.Tables.{allows}
use Rattle.msp_closure.proofs.ReachLemmas.{IsSound-alone}
use Rattle.msp_closure.proofs.reach_bits.related.Goals as goal

pub follow-requires-clause-sound : goal.follow-requires-clause-sound
follow-requires-clause-sound c = IsSound-alone (allows c.args.rows) c.in_ok-relation.relation c.in_ok-relation.ensures.alone
