use Rattle.normal_files.proofs.Words.{◌≡◌, ℕ, refl, ap, ◌∙◌, subst, arith, get_or, Image, bytes_in, cut, reads_then, reads_within}
use Rattle.normal_files.specs.Cuts.{IsKeptNode, cut_block, cut_place, last_leaf}
use Rattle.normal_files.specs.Laid.{node_of}
use Rattle.normal_files.proofs.Refusals.{stopped_is, tells_after, trouble_after_reads, way_refused}
use Rattle.normal_files.proofs.Ways.{no_places, unread_top, unread_way, way_own, way_places, way_top}
use Rattle.block_tree.specs.Along.{CutsRootPast, IsTo, way_leaves}
use Rattle.block_tree.specs.Way.{CutsAt}
use Rattle.block_tree.specs.declared.node.Node as nodes
use Rattle.leaf_changes.specs.Tops.{root_top}
use Rattle.cfs_base.proofs.Passed.{is_passed}
use Rattle.normal_files.proofs.cut.read_end.Goals as goal

pub returns-clause-read : goal.returns-clause-read
returns-clause-read g c =
    let got = c.in_ok-last.ensures in
    let root = c.args.root.now in
    let size = c.args.size in
    let way = c.get.new.self in
    let next = c.cut.new.self in
    let kept = c.kept_block-kept.result in
    let to : IsTo (last_leaf size) way = subst (λ (k : ℕ). IsTo k way) c.last_leaf.ensures.leaf got.to in
    record {
      leads = to;
      within = got.within;
      there = (let is = got.top (unread_top (g.D.Disk.blocks c.args.disk.now) root c.new-way.result c.new-way.ensures) (omega (arith, to.whole)) in omega (arith, is, way_top root way (last_leaf size) to));
      cut = c.cut_block-cut.ensures.block ∙ ap (cut_block size) got.end;
      near = c.cut_block-cut.ensures.near _ got.there;
      kept = subst (λ (n : ℕ). IsKeptNode (way_leaves way) (cut_place size) (node_of root n) kept) c.last_node.ensures.node
          (subst (λ (p : ℕ). IsKeptNode (way_leaves way) p (node_of root c.last_node.result) kept) c.cut_place-place.ensures.place
          (subst (λ (n : nodes.Node). IsKeptNode n.leaves c.cut_place-place.result (node_of root c.last_node.result) kept) c.way_node.ensures.node c.kept_block-kept.ensures));
      cuts_node = subst (λ (p : ℕ). CutsAt (λ k. get_or (way_leaves way) k 0) p (λ k. get_or (way_leaves next) k 0)) c.cut_place-place.ensures.place ((c.cut.ensures.nodes 0 (omega arith)).last refl);
      cuts_root = subst (λ (n : ℕ). CutsRootPast (record root { size = size }) n kept c.cut.new.root) (way_places way (last_leaf size) to.path).0 c.cut.ensures.root;
    }

pub returns-clause-end : goal.returns-clause-end
returns-clause-end g c = λ tells.
    let root = c.args.root.now in
    let fill = c.args.root.now.fill in
    let image = g.D.Disk.content c.args.disk.now in
    let got = c.in_ok-last.ensures in
    let way = c.get.new.self in
    let one = got.reads 0 (omega arith) (no_places _ _) in
    record {
      own = way_own image root way (last_leaf c.args.size) (subst (λ (k : ℕ). IsTo k way) c.last_leaf.ensures.leaf got.to) (got.way tells (unread_way image root c.new-way.result c.new-way.ensures));
      content = subst (λ (i : Image). c.in_ok-content.content ≡ cut c.args.size fill (bytes_in i fill c.cut_block-cut.result)) one.content
          (c.in_ok-content.ensures.content (tells_after g.D.Disk c.args.disk.now c.get.new.disk one tells));
    }

pub returns-clause-reads : goal.returns-clause-reads
returns-clause-reads g c = reads_then g.D.Disk c.args.disk.now c.get.new.disk c.cut_content.new.disk 1 1 2 (c.in_ok-last.ensures.reads 0 (omega arith) (no_places _ _)) c.in_ok-content.ensures.reads (omega arith)

pub returns-in_err-last-clause-refused : goal.returns-in_err-last-clause-refused
returns-in_err-last-clause-refused g c = rw (is_passed c.from_residual.result c.in_err-last.field-0.0 c.from_residual.ensures.1) (way_refused g.D.Disk c.args.at.0 c.args.root.now c.args.disk.now c.get.new.disk c.in_err-last.field-0.0 c.in_err-last.ensures.refused)

pub returns-in_err-last-clause-reads : goal.returns-in_err-last-clause-reads
returns-in_err-last-clause-reads g c = reads_within g.D.Disk c.args.disk.now c.get.new.disk 1 2 (omega arith) (c.in_err-last.ensures.reads 0 (omega arith) (no_places _ _))

pub returns-in_err-content-clause-refused : goal.returns-in_err-content-clause-refused
returns-in_err-content-clause-refused g c =
    rw (is_passed c.from_residual-in_err-content.result c.in_err-content.field-0.0 c.from_residual-in_err-content.ensures.1) (let at = root_top c.args.at.0 c.args.root.now in
    let t = c.in_err-content.field-0.0 in
    trouble_after_reads g.D.Disk at c.args.disk.now c.get.new.disk c.cut_content.new.disk 1 t (c.in_ok-last.ensures.reads 0 (omega arith) (no_places _ _)) (stopped_is g.D.Disk at c.get.new.disk c.cut_content.new.disk t c.in_err-content.ensures.refused))

pub returns-in_err-content-clause-reads : goal.returns-in_err-content-clause-reads
returns-in_err-content-clause-reads g c = reads_then g.D.Disk c.args.disk.now c.get.new.disk c.cut_content.new.disk 1 1 2 (c.in_ok-last.ensures.reads 0 (omega arith) (no_places _ _)) c.in_err-content.ensures.reads (omega arith)
