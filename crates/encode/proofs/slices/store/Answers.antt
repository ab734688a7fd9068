-- `store` satisfies its contract.
use Rattle.std.proofs.Common.{refl, arith}
use Rattle.encode.proofs.Stores.{put_mid_sets}
use Rattle.encode.proofs.slices.store.Goals as goal

pub returns : goal.returns
returns c =
    let a = c.args in
    record { out = rw c.copy_from_slice.ensures.after (put_mid_sets a.out.now a.bytes.now a.at _ c.requires (omega arith)); place = refl }
