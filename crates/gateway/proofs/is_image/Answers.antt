-- `gateway::is_image` meets its contract: the keys that stand in the words get their edges, are one issue of each first
-- part, are built, and the words compared
-- with their image.
use mathlib.Core.Path.{◌≡◌}
use mathlib.Core.Bool.{true}
use native.Mathlib.Omega.{arith}
use borrow.Author.Tests.{not-true, not-false}
use Rattle.layout.specs.Layout.{one_issue, keys_in}
use Rattle.layout.proofs.Shape.{shape}
use Rattle.layout.proofs.Shape.{same_header}
use Rattle.scratch_set.specs.Collected.{Collected, collected_room}
use Rattle.gateway.specs.Building.{built_readable}
use Rattle.gateway.specs.Loading.{collected_searchable, collected_issues, collected_buildable, read_twice}
use Rattle.gateway.specs.Loading.{read_full, read_told}
use borrow.Author.Rules.{rules}
use Rattle.gateway.proofs.is_image.Goals as goal

pub collect_keys-n-requires : goal.collect_keys-n-requires
collect_keys-n-requires c =
    let p = c.requires.0 in
    let h = shape _ p.shape in
    (h, omega (arith, p.room, h.sizes))

pub write_edges-requires : goal.write_edges-requires
write_edges-requires c =
    let collected : let a = c.args in let h = a.header in Collected a.tabulation.now a.words.now c.collect_keys-n.new.scratch h.slots h.places h.station c.collect_keys-n.result = let p = c.requires.0 in
    let h = same_header c.requires.1 in
    record {
      ready = record {
        full_length = p.full_length;
        shape = p.shape;
        room = omega
            (arith, p.room, c.collect_keys-n.auto.scratch);
      };
      slots = h.slots;
      places = h.places;
      stationed = h.station;
      count = c.collect_keys-n.ensures.counted;
      front = c.collect_keys-n.ensures.front;
    } in
    collected

pub one_issue-requires : goal.one_issue-requires
one_issue-requires c =
    let collected : let a = c.args in let h = a.header in Collected a.tabulation.now a.words.now c.collect_keys-n.new.scratch h.slots h.places h.station c.collect_keys-n.result = let p = c.requires.0 in
    let h = same_header c.requires.1 in
    record {
      ready = record {
        full_length = p.full_length;
        shape = p.shape;
        room = omega
            (arith, p.room, c.collect_keys-n.auto.scratch);
      };
      slots = h.slots;
      places = h.places;
      stationed = h.station;
      count = c.collect_keys-n.ensures.counted;
      front = c.collect_keys-n.ensures.front;
    } in
    collected_searchable (collected) c.write_edges.auto.scratch c.write_edges.ensures

pub returns-then-not-one_issue : goal.returns-then-not-one_issue
returns-then-not-one_issue c =
    let collected : let a = c.args in let h = a.header in Collected a.tabulation.now a.words.now c.collect_keys-n.new.scratch h.slots h.places h.station c.collect_keys-n.result = let p = c.requires.0 in
    let h = same_header c.requires.1 in
    record {
      ready = record {
        full_length = p.full_length;
        shape = p.shape;
        room = omega
            (arith, p.room, c.collect_keys-n.auto.scratch);
      };
      slots = h.slots;
      places = h.places;
      stationed = h.station;
      count = c.collect_keys-n.ensures.counted;
      front = c.collect_keys-n.ensures.front;
    } in
    read_twice (collected) c.write_edges.auto.scratch c.write_edges.ensures
    c.one_issue.ensures c.if-not-one_issue.true

pub build-requires : goal.build-requires
build-requires c =
    let collected : let a = c.args in let h = a.header in Collected a.tabulation.now a.words.now c.collect_keys-n.new.scratch h.slots h.places h.station c.collect_keys-n.result = let p = c.requires.0 in
    let h = same_header c.requires.1 in
    record {
      ready = record {
        full_length = p.full_length;
        shape = p.shape;
        room = omega
            (arith, p.room, c.collect_keys-n.auto.scratch);
      };
      slots = h.slots;
      places = h.places;
      stationed = h.station;
      count = c.collect_keys-n.ensures.counted;
      front = c.collect_keys-n.ensures.front;
    } in
    collected_buildable (collected) c.write_edges.auto.scratch c.write_edges.ensures

pub returns-in_default : goal.returns-in_default
returns-in_default c =
    let single : one_issue (keys_in c.args.words.now) ≡ true = let collected : let a = c.args in let h = a.header in Collected a.tabulation.now a.words.now c.collect_keys-n.new.scratch h.slots h.places h.station c.collect_keys-n.result = let p = c.requires.0 in
    let h = same_header c.requires.1 in
    record {
      ready = record {
        full_length = p.full_length;
        shape = p.shape;
        room = omega
            (arith, p.room, c.collect_keys-n.auto.scratch);
      };
      slots = h.slots;
      places = h.places;
      stationed = h.station;
      count = c.collect_keys-n.ensures.counted;
      front = c.collect_keys-n.ensures.front;
    } in
    collected_issues (collected) c.write_edges.auto.scratch c.write_edges.ensures
    c.one_issue.ensures c.if-not-one_issue.false in
    let collected : let a = c.args in let h = a.header in Collected a.tabulation.now a.words.now c.collect_keys-n.new.scratch h.slots h.places h.station c.collect_keys-n.result = let p = c.requires.0 in
    let h = same_header c.requires.1 in
    record {
      ready = record {
        full_length = p.full_length;
        shape = p.shape;
        room = omega
            (arith, p.room, c.collect_keys-n.auto.scratch);
      };
      slots = h.slots;
      places = h.places;
      stationed = h.station;
      count = c.collect_keys-n.ensures.counted;
      front = c.collect_keys-n.ensures.front;
    } in
    read_full (collected) c.write_edges.auto.scratch c.write_edges.ensures (single)
    c.build.auto.scratch c.build.ensures c.in_default.is

pub matches_built-requires : goal.matches_built-requires
matches_built-requires c =
    let collected : let a = c.args in let h = a.header in Collected a.tabulation.now a.words.now c.collect_keys-n.new.scratch h.slots h.places h.station c.collect_keys-n.result = let p = c.requires.0 in
    let h = same_header c.requires.1 in
    record {
      ready = record {
        full_length = p.full_length;
        shape = p.shape;
        room = omega
            (arith, p.room, c.collect_keys-n.auto.scratch);
      };
      slots = h.slots;
      places = h.places;
      stationed = h.station;
      count = c.collect_keys-n.ensures.counted;
      front = c.collect_keys-n.ensures.front;
    } in
    let C = collected in (
      (shape _ c.requires.0.shape, (C.slots, C.places)),
      built_readable (collected_room C).0
          (collected_buildable C c.write_edges.auto.scratch c.write_edges.ensures) c.build.auto.scratch
          c.build.ensures
          c.in-Some.is,
    )

pub returns : goal.returns
returns c =
    let single : one_issue (keys_in c.args.words.now) ≡ true = let collected : let a = c.args in let h = a.header in Collected a.tabulation.now a.words.now c.collect_keys-n.new.scratch h.slots h.places h.station c.collect_keys-n.result = let p = c.requires.0 in
    let h = same_header c.requires.1 in
    record {
      ready = record {
        full_length = p.full_length;
        shape = p.shape;
        room = omega
            (arith, p.room, c.collect_keys-n.auto.scratch);
      };
      slots = h.slots;
      places = h.places;
      stationed = h.station;
      count = c.collect_keys-n.ensures.counted;
      front = c.collect_keys-n.ensures.front;
    } in
    collected_issues (collected) c.write_edges.auto.scratch c.write_edges.ensures
    c.one_issue.ensures c.if-not-one_issue.false in
    let collected : let a = c.args in let h = a.header in Collected a.tabulation.now a.words.now c.collect_keys-n.new.scratch h.slots h.places h.station c.collect_keys-n.result = let p = c.requires.0 in
    let h = same_header c.requires.1 in
    record {
      ready = record {
        full_length = p.full_length;
        shape = p.shape;
        room = omega
            (arith, p.room, c.collect_keys-n.auto.scratch);
      };
      slots = h.slots;
      places = h.places;
      stationed = h.station;
      count = c.collect_keys-n.ensures.counted;
      front = c.collect_keys-n.ensures.front;
    } in
    read_told (collected) c.write_edges.auto.scratch c.write_edges.ensures (single)
    c.build.auto.scratch c.build.ensures c.in-Some.is
    c.matches_built.ensures
