use Rattle.encode.proofs.Stores.{be_last}
use Rattle.encode.proofs.encoder.store_be.Goals as goal

pub store-requires : goal.store-requires
store-requires g c = rw (be_last g.row.N c.args.value _ c.requires.has_bytes c.to_be_bytes.ensures) c.requires.has_capacity

pub returns : goal.returns
returns g c = rw (be_last g.row.N c.args.value _ c.requires.has_bytes c.to_be_bytes.ensures) at c.store.ensures
