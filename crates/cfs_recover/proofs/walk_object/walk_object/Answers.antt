use Rattle.std.proofs.Common.{◌≡◌, ℕ, ◌+◌, ◌*◌, ◌<◌, length, refl, arith}
use Rattle.cfs_recover.proofs.Words.{block_at, id_of, leaf_in, node_levels, object_shown, reads_then, shown_root, shown_tree}
use Rattle.cfs_recover.specs.Reads.{reads_below, reads_through}
use Rattle.cfs_recover.proofs.Counting.{object_counted}
use Rattle.cfs_recover.proofs.Noting.{grows_then}
use Rattle.cfs_recover.proofs.Refused.{stored_on, told_on}
use Rattle.cfs_recover.proofs.Taking.{is_copy, kind_is, nodes_are, object_taken, object_tree, root_kept, top_pointers}
use Rattle.cfs_recover.proofs.walk_object.walk_object.Goals as goal

pub returns-in_err-walk_below-clause-told : goal.returns-in_err-walk_below-clause-told
returns-in_err-walk_below-clause-told g c image label done walks standing has next =
    let item = c.args.item in
    let head = c.in_ok-head.head in
    let own = c.in_ok-own.ensures.told image walks.stored (walks.walk.found done item next) in
    let first = stored_on g.D.Disk c.args.disk.now c.own_root.new.disk 1 image c.in_ok-own.ensures.reads walks.stored in
    let opened = c.in_ok-head.ensures.told image label first walks.maps_are standing has own in
    told_on _ _ _ _ _ c.from_residual-in_err-walk_below.ensures.1
    (c.in_err-walk_below.ensures.told image done (record {
      stored = stored_on g.D.Disk c.own_root.new.disk c.open_object.new.disk 1 image c.in_ok-head.ensures.reads first;
      maps_are = walks.maps_are;
      walk = c.hold.ensures.told image done walks.walk (root_kept image (id_of item c.in_ok-own.own) head opened);
    }) (top_pointers image (id_of item c.in_ok-own.own) head opened))
    (λ d wrong. wrong)

pub returns-clause-told : goal.returns-clause-told
returns-clause-told g c image label done walks standing has next =
    let item = c.args.item in
    let head = c.in_ok-head.head in
    let id = id_of item c.in_ok-own.own in
    let own = c.in_ok-own.ensures.told image walks.stored (walks.walk.found done item next) in
    let first = stored_on g.D.Disk c.args.disk.now c.own_root.new.disk 1 image c.in_ok-own.ensures.reads walks.stored in
    let second = stored_on g.D.Disk c.own_root.new.disk c.open_object.new.disk 1 image c.in_ok-head.ensures.reads first in
    let opened = c.in_ok-head.ensures.told image label first walks.maps_are standing has own in
    let all = c.in_ok-walk_below.ensures.told image done (record {
      stored = second;
      maps_are = walks.maps_are;
      walk = c.hold.ensures.told image done walks.walk (root_kept image id head opened);
    }) (top_pointers image id head opened) in
    let grows = c.in_ok-walk_below.ensures.grows in (
      record {
        stored = all.0.stored;
        maps_are = walks.maps_are;
        walk = c.learn.ensures.told image done (object_shown image id head.root) all.0.walk
            (record { item = item; here = grows.found done item (c.hold.ensures.grows.found done item next); is = refl })
            (kind_is head.root (leaf_in (shown_tree image item.block)))
            (object_taken image id head opened c.walk_below.new.walk all.1 (λ n below. (walks.stored.blocks n below).long) (grows.held item.block c.hold.ensures.held));
      },
      is_copy image id head opened,
    )

pub returns-clause-few : goal.returns-clause-few
returns-clause-few g c image label done walks standing has next =
    let item = c.args.item in
    let head = c.in_ok-head.head in
    let id = id_of item c.in_ok-own.own in
    let own = c.in_ok-own.ensures.told image walks.stored (walks.walk.found done item next) in
    let first = stored_on g.D.Disk c.args.disk.now c.own_root.new.disk 1 image c.in_ok-own.ensures.reads walks.stored in
    let second = stored_on g.D.Disk c.own_root.new.disk c.open_object.new.disk 1 image c.in_ok-head.ensures.reads first in
    let opened = c.in_ok-head.ensures.told image label first walks.maps_are standing has own in
    let all = c.in_ok-walk_below.ensures.told image done (record {
      stored = second;
      maps_are = walks.maps_are;
      walk = c.hold.ensures.told image done walks.walk (root_kept image id head opened);
    }) (top_pointers image id head opened) in
    let whole : (n : ℕ) → n < length image → length (block_at image n) ≡ 512 = λ n below. (walks.stored.blocks n below).long in
    let held = c.in_ok-walk_below.ensures.grows.held item.block c.hold.ensures.held in
    let through = reads_through (reads_below image head.root node_levels) (0 * length head.root.nodes) head.root.nodes in (
      2 + through,
      record {
        id = id;
        object = object_shown image id head.root;
        block = refl;
        reads_as = (object_taken image id head opened c.walk_below.new.walk all.1 whole held).reads;
        count = object_counted image id.block (shown_root image id.block) head.root (object_shown image id head.root) (object_tree image id head opened c.walk_below.new.walk all.1 whole held) head.root.nodes (nodes_are image id head opened);
      },
      reads_then g.D.Disk c.args.disk.now c.open_object.new.disk c.walk_below.new.disk 2 through (2 + through)
          (reads_then g.D.Disk c.args.disk.now c.own_root.new.disk c.open_object.new.disk 1 1 2 c.in_ok-own.ensures.reads c.in_ok-head.ensures.reads (omega arith))
          (c.in_ok-walk_below.ensures.few image second) (omega arith),
    )

pub returns-clause-grows : goal.returns-clause-grows
returns-clause-grows g c = grows_then _ _ _ c.hold.ensures.grows (grows_then _ _ _ c.in_ok-walk_below.ensures.grows c.learn.ensures.grows)
