-- The goals of `run_on_streams`: it leaves what `run` leaves, and each relation says by how many a count went up.
use Rattle.msp_top.proofs.StreamCounts.{is_counted}
use Rattle.msp_top.proofs.streams.run_on_streams.Goals as goal

pub returns-clause-as_run : goal.returns-clause-as_run
returns-clause-as_run g c = c.run.ensures

pub returns-clause-counted : goal.returns-clause-counted
returns-clause-counted g c = is_counted _ _ _ _ _ _ _ c.run.result (λ bytes h. h.gives.given)
    (λ bytes h. h.gives_all.gives.given) (λ bytes h. h.breaks.given) (λ bytes h. h.taken) (λ bytes h. h.breaks.taken) c.run.ensures.served
