-- `slot` satisfies its contract.
use borrow.Author.Rules.{rules}
use borrow.Author.Tests.{lt-ltb, le-ltb}
use Rattle.phd.specs.Phd.{slot}
use Rattle.phd.proofs.CacheSlots.{slot_chosen}
use Rattle.phd.proofs.cache.Cache.slot.Statement.{statement}
use Rattle.phd.proofs.cache.Cache.slot.Tie as tie

bounds-classes-0 : tie.Need-bounds-classes-0
bounds-classes-0 c = search rules

bounds-classes-1 : tie.Need-bounds-classes-1
bounds-classes-1 c = search rules

choice-low-requires : tie.Need-choice-low-requires
choice-low-requires c κs = search rules

bounds-classes-2 : tie.Need-bounds-classes-2
bounds-classes-2 c = search rules

bounds-classes-3 : tie.Need-bounds-classes-3
bounds-classes-3 c = search rules

choice-high-requires : tie.Need-choice-high-requires
choice-high-requires c κs = search rules

choice-requires : tie.Need-choice-requires
choice-requires c κs = search rules

returns-then-i-self : tie.Need-returns-then-i-self
unfolding slot
returns-then-i-self c =
    let d = c.before in
    let t = d.before.before.before in
    let s = t.before.before in
    rw (c.choice.ensures, d.choice-high.ensures, d.choice-low.ensures, lt-ltb _ _ t.if-i-self.true, slot_chosen s.args.self.classes s.args.i s.requires)

returns-else-i-self : tie.Need-returns-else-i-self
unfolding slot
returns-else-i-self c = simp (le-ltb _ _ c.if-i-self.false)

pub slot_spec : {M : Type 1} → statement M
slot_spec =
    tie.close
    (tie.spec
    bounds-classes-0
    bounds-classes-1
    choice-low-requires
    bounds-classes-2
    bounds-classes-3
    choice-high-requires
    choice-requires
    returns-then-i-self
    returns-else-i-self)
