-- What holds at each turn of `octet::put`'s loop: the octets before i are written, those behind are as they were.
use Rattle.std.proofs.Common.{◌≡◌, ◌≤◌, ◌++◌, length, take, drop}
use Rattle.octet.proofs.put.Given as goal

abbrev pub invariant-loop-i : goal.invariant-loop-i
invariant-loop-i l = (l.dst ≡ take l.i l.src ++ drop l.i l.initial.dst) × (l.i ≤ length l.src)
