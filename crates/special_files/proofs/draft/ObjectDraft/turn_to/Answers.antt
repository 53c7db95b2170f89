use Rattle.std.proofs.Common.{subst, sym, arith}
use Rattle.special_files.proofs.Words.{all_ok, Drafting, IsDraftTrouble, IsNearTree, IsRead, IsSafe, Trouble, root_spelling, top_of}
use Rattle.special_files.proofs.Refusals.{if_err}
use Rattle.special_files.proofs.Ways.{way_refused}
use Rattle.special_files.proofs.WriteLeaf.{near_there}
use Rattle.special_files.proofs.draft.ObjectDraft.turn_to.Goals as goal

pub returns-clause-turns : goal.returns-clause-turns
returns-clause-turns g c =
    let d0 = c.args.disk.now in
    let got = c.get.ensures in
    let reads = got.reads 0 (omega arith) (λ d none. absurd (omega (arith, none))) in
    let safe = subst (λ (d : Drafting). IsSafe (g.D.Disk.blocks d0) d c.args.way.now) (sym c.self.view_is) c.requires.safe in
    record {
      node = λ tells is. all_ok c.get.result (subst (λ (d : Drafting). IsRead (g.D.Disk.content d0) d c.get.new.self) c.self.view_is (got.way tells (subst (λ (d : Drafting). IsRead (g.D.Disk.content d0) d c.args.way.now) (sym c.self.view_is) is)));
      safe = all_ok c.get.result (subst (λ (d : Drafting). IsSafe (g.D.Disk.blocks d0) d c.get.new.self) c.self.view_is (got.within, got.top safe.1));
      to = got.to;
      refused = λ kept. if_err c.get.result (λ (t : Trouble) why. subst (λ (d : Drafting). IsDraftTrouble g.D.Disk (top_of d) d0 c.get.new.disk kept t) c.self.view_is
          (way_refused g.D.Disk _ _ d0 c.get.new.disk kept t reads.same.size reads.content why)) got.refused;
      untried = got.untried;
      sound = λ v is. got.sound v.tells (subst (λ (d : Drafting). IsRead (g.D.Disk.content d0) d c.args.way.now) (sym c.self.view_is) is)
          (subst (λ (d : Drafting). IsNearTree (g.D.Disk.blocks d0) (g.D.Disk.content d0) (root_spelling d.root)) (sym c.self.view_is) (near_there v (g.met.D.Disk.sized d0 v.tells.honest) c.requires.some));
      reads = reads;
    }
