-- the hash of the bytes so far
use Rattle.std.proofs.Common.{◌≡◌, take}
use Rattle.kv_base.specs.Partition.{hash_of}
use Rattle.kv_base.proofs.partition.owner.Given as goal

abbrev pub invariant-loop-byte : goal.invariant-loop-byte
invariant-loop-byte l = l.hash ≡ hash_of (take l.byte-index l.key)
