-- `access::write_header` meets its contract: word by word.
use native.Mathlib.Omega.{arith}
use lib.ListN.{length-set}
use Rattle.layout.proofs.Image.{headed}
use borrow.Author.Rules.{rules}
use Rattle.access.proofs.write_header.Goals as goal

pub bounds-words-1 : goal.bounds-words-1
bounds-words-1 c = simp length-set (omega arith)

pub bounds-words-2 : goal.bounds-words-2
bounds-words-2 c = simp length-set (omega arith)

pub bounds-words-3 : goal.bounds-words-3
bounds-words-3 c = simp length-set (omega arith)

pub returns : goal.returns
returns c = headed c.args.words.now c.args.header c.requires
