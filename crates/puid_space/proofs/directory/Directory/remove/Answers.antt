use Rattle.std.proofs.Common.{◌≡◌, sym, true, false, is_some}
use Rattle.puid_space.proofs.Words.{directory_kind}
use Rattle.puid_space.proofs.Listed.{without-absent}
use Rattle.puid_space.proofs.Opened.{removed, none-is}
use Rattle.puid_space.proofs.directory.Directory.remove.Goals as goal

pub index_mut-requires : goal.index_mut-requires
index_mut-requires c =
    let there : is_some (directory_kind c.args.self.now.named c.args.id) ≡ true = cc in
    (removed c.self.inside c.args.self.now c.self.view_is c.self.invariant c.args.id there).0

pub invariant_of-self : goal.invariant_of-self
invariant_of-self c =
    let there : is_some (directory_kind c.args.self.now.named c.args.id) ≡ true = cc in
    (removed c.self.inside c.args.self.now c.self.view_is c.self.invariant c.args.id there).1

pub returns-then-there-clause-named : goal.returns-then-there-clause-named
returns-then-there-clause-named c =
    let there : is_some (directory_kind c.args.self.now.named c.args.id) ≡ true = cc in
    (removed c.self.inside c.args.self.now c.self.view_is c.self.invariant c.args.id there).2

pub returns-else-there-clause-named : goal.returns-else-there-clause-named
returns-else-there-clause-named c =
    let none : is_some (directory_kind c.args.self.now.named c.args.id) ≡ false = cc in
    sym (without-absent c.args.self.now.named c.args.id (none-is _ none))
