use Rattle.std.proofs.Common.{◌≡◌, ◌≤◌, Bool, true, false, refl, ◌∙◌, arith, rules}
use Rattle.cfs_recover.proofs.Words.{nat_lt, nat_tests}
use Rattle.cfs_recover.specs.Found as spec
use Rattle.cfs_recover.proofs.Listings.{is_alone, is_below}
use Rattle.cfs_recover.proofs.found.Walk.lists.Goals as goal

pub returns-then-id-room-clause-alone : goal.returns-then-id-room-clause-alone
returns-then-id-room-clause-alone c is other there same =
    is_alone c.args.self.now.directory c.room.ensures.listing other c.args.id there (search rules) same

pub returns-else-id-room-clause-lists : goal.returns-else-id-room-clause-lists
returns-else-id-room-clause-lists c =
    let past : c.room.result ≤ c.args.id.block = c.if-id-room.false in
    let no : nat_lt c.args.id.block c.room.result ≡ false = grind (arith, nat_tests) in
    no ∙ at (spec.lists c.args.self.now c.args.id) refl
  where
    at : (b : Bool) → spec.lists c.args.self.now c.args.id ≡ b → false ≡ b
    at true is = let below = is_below c.args.self.now.directory c.room.ensures.listing c.args.id is in absurd (omega (arith, below, c.room.ensures.room, c.if-id-room.false))
    at false is = refl
