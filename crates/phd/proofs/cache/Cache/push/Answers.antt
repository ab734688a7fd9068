-- Each slot is the class word or what it was.
use Rattle.std.proofs.Common.{◌%◌, arith, rules, lt-ltb, le-ltb}
use Rattle.phd.specs.Phd.{push}
use Rattle.phd.proofs.CacheSlots.{slots_set}
use Rattle.phd.proofs.cache.Cache.push.Goals as goal

pub returns-then-pushes-lt7 : goal.returns-then-pushes-lt7
unfolding push
returns-then-pushes-lt7 c =
    let a = c.args in
    rw (c.choice-4.ensures, c.choice-3.ensures, c.choice-2.ensures, c.choice.ensures, lt-ltb _ _ c.if-pushes-lt7.true, slots_set a.self.classes (search rules) (a.self.pushes % 4) a.class (omega arith))

pub returns-else-pushes-lt7 : goal.returns-else-pushes-lt7
unfolding push
returns-else-pushes-lt7 c =
    let a = c.args in
    rw (c.choice-4.ensures, c.choice-3.ensures, c.choice-2.ensures, c.choice.ensures, le-ltb _ _ c.if-pushes-lt7.false, slots_set a.self.classes (search rules) (a.self.pushes % 4) a.class (omega arith))
