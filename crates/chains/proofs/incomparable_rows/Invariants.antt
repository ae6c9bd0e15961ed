-- `chains::incomparable_rows` meets its contract: the loop has changed the rows below x.
use lib.Bits.{bit_or, bit_xor}
use Rattle.tables.specs.Tables.{row}
use Rattle.tables.proofs.Loops.{Rowing}
use Rattle.chains.proofs.incomparable_rows.Given as goal

abbrev pub invariant-loop-x : goal.invariant-loop-x
invariant-loop-x l = Rowing (λ k v. bit_xor (bit_or v (row l.above k)) 65535) 16 l.initial.apart l.x l.apart
