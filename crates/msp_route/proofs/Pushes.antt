-- What holds after a push, or another call, that was not refused.
pub use Rattle.msp_pieces.proofs.lists.Pushes.{on_ok, pushed, range-next, numbers-next}
