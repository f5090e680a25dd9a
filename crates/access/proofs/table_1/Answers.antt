-- `access::table_1` meets its contract: from the end of table 0 to where the stash begins.
use Prim.Native.Nat.{◌+◌, ◌*◌, ◌-◌}
use mathlib.Core.Path.{◌≡◌}
use native.Mathlib.Omega.{arith}
use Rattle.layout.specs.Layout.{slots_of, key_at, slot_width}
use borrow.Author.Rules.{rules}
use Rattle.access.proofs.table_1.Goals as goal

pub returns : goal.returns
returns c =
    let r = slots_of c.args.words.now in
    let n : key_at (r + r) - key_at r ≡ slot_width * r = omega arith in
    record {
      part = rw (c.stash_start-end.ensures, c.wide.ensures, n);
      sized = search rules;
    }
