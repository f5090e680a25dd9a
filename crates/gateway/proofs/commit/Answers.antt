-- `gateway::commit` meets its contract: the set has no room, or its image is written.
use Rattle.gateway.specs.Committing.{committable_built, committed_full, committed_readable, committed_made}
use borrow.Author.Rules.{rules}
use Rattle.gateway.proofs.commit.Goals as goal

pub build-requires : goal.build-requires
build-requires c =
    committable_built _ _ c.requires c.wide-n.ensures

pub returns-in_default : goal.returns-in_default
returns-in_default c =
    committed_full _ _ c.requires c.wide-n.ensures c.build.auto.scratch c.build.ensures
    c.in_default.is

pub write_built-requires : goal.write_built-requires
write_built-requires c =
    rw c.with_stashed-laid.ensures
    (committed_readable _ _ c.requires c.wide-n.ensures c.build.auto.scratch c.build.ensures c.in-Some.is)

pub returns : goal.returns
returns c =
    committed_made _ _ c.requires c.wide-n.ensures c.build.auto.scratch c.build.ensures c.in-Some.is
    (rw c.with_stashed-laid.ensures at c.write_built.ensures)
