use Rattle.std.proofs.Common.{◌≡◌, length, take}
use Rattle.pile.specs.Entries.{entries, room}
use Rattle.showing.proofs.probes.piled.Given as goal

abbrev pub invariant-loop-token : goal.invariant-loop-token
invariant-loop-token l = (entries l.pile ≡ take l.token-index l.tokens) × (room l.pile ≡ length l.fn.scratch)
