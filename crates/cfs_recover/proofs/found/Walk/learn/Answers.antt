use Rattle.std.proofs.Common.{◌≡◌, List, [], refl, sym, ◌∙◌, ap, subst, arith}
use Rattle.cfs_recover.proofs.Words.{IsSized, Kind, Listing, Puid, has_root_in, insert_entry, puid_cmp, without_id}
use Rattle.cfs_recover.proofs.Noting.{sized_again}
use Rattle.cfs_recover.proofs.Listings.{is_below, root_is_free}
use Rattle.cfs_recover.proofs.Learning.{learn_grows, learn_walk}
use Rattle.cfs_recover.proofs.found.Walk.learn.Goals as goal

pub prove-unreachable-requires : goal.prove-unreachable-requires
prove-unreachable-requires c =
    let below = is_below c.args.self.now.directory c.room-room.ensures.listing c.args.id c.requires in
    omega (arith, below, c.room-room.ensures.room, c.if-prove.true)

pub add-requires-clause-free : goal.add-requires-clause-free
add-requires-clause-free c =
    ap (λ (n : List (Puid × Kind)). has_root_in n c.args.id.block) c.remove.ensures.named
    ∙ root_is_free c.args.self.now.directory c.room-room.ensures.listing c.args.id c.requires

pub invariant_of-self : goal.invariant_of-self
invariant_of-self c =
    let was = c.args.self.now in
    let named = c.add.ensures.named ∙ ap (λ (n : List (Puid × Kind)). insert_entry puid_cmp n c.args.id c.args.kind) c.remove.ensures.named in
    let room = c.add.ensures.room ∙ c.remove.ensures.room in
    let is : record { named = insert_entry puid_cmp (without_id was.directory.named c.args.id) c.args.id c.args.kind; room = was.directory.room } ≡ c.add.new.self = λ i. record { named = sym named i; room = sym room i } in
    record { sized = subst (λ (d : Listing). IsSized d was.found.items was.held.items) is (sized_again was.directory was.found.items was.held.items was.sized c.args.id c.args.kind c.requires) }

pub returns-clause-told : goal.returns-clause-told
returns-clause-told c image done o walk next kind taken =
    let named = c.add.ensures.named ∙ ap (λ (n : List (Puid × Kind)). insert_entry puid_cmp n c.args.id c.args.kind) c.remove.ensures.named in
    let room = c.add.ensures.room ∙ c.remove.ensures.room in
    learn_walk image c.args.self.now _ c.args.id c.args.kind (λ i. record { named = named i; room = room i }) refl refl refl c.requires done o walk c.room-room.ensures.listing next kind taken

pub returns-clause-grows : goal.returns-clause-grows
returns-clause-grows c =
    let named = c.add.ensures.named ∙ ap (λ (n : List (Puid × Kind)). insert_entry puid_cmp n c.args.id c.args.kind) c.remove.ensures.named in
    let room = c.add.ensures.room ∙ c.remove.ensures.room in
    learn_grows [] c.args.self.now _ c.args.id c.args.kind (λ i. record { named = named i; room = room i }) refl refl refl c.requires
