-- What a queue holds.
use Rattle.std.specs.Prelude.{ℕ, List, length, take}
use Rattle.queue.specs.declared.Queue.{Queue}

-- its entries, in the order of handing out
abbrev pub entries : {T : Type 0} → Queue T → List T
entries q = take q.count q.list.now

-- how many entries it can hold
abbrev pub capacity : {T : Type 0} → Queue T → ℕ
capacity q = length q.list.now
