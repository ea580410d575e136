use Rattle.std.proofs.Common.{refl}
use Rattle.msp_instance.proofs.PathBitLemmas.{IsOrder-from_sequence, ShowsPaths-from_bits}
use Rattle.msp_instance.proofs.path_bits.Paths.of.Goals as goal

pub bits_of_paths-requires-clause-order : goal.bits_of_paths-requires-clause-order
bits_of_paths-requires-clause-order c =
    IsOrder-from_sequence c.args.inst.now c.in-Ok.order c.as_slice-2.result.now c.as_slice.result.now c.in_ok-sorted.sorted.items
    c.as_slice-3.result.now c.as_slice-2.ensures c.as_slice.ensures c.in_ok-sorted.ensures.same c.as_slice-3.ensures.value c.in-Ok.ensures.sequence
    c.in-Ok.ensures.forward c.requires.ends

pub returns : goal.returns
returns c =
    ShowsPaths-from_bits c.args.inst.now c.in-Ok.order c.as_slice-2.result.now c.as_slice.result.now c.in_ok-sorted.sorted.items
    c.as_slice-3.result.now c.as_slice-2.ensures c.as_slice.ensures c.in_ok-sorted.ensures.same c.as_slice-3.ensures.value c.in-Ok.ensures.sequence
    _ _ c.in_ok-bits_of_paths.field-0.items c.from_vec-words.result refl c.from_vec-words.ensures c.in_ok-bits_of_paths.ensures
