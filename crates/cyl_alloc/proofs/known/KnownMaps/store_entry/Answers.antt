use Rattle.std.proofs.Common.{◌≡◌, ◌*◌, ◌/◌, ◌%◌, ℕ, List, set, ◌∙◌, ap, sym, subst, arith}
use Rattle.cyl_alloc.proofs.Entries.{spells_with}
use Rattle.cyl_alloc.proofs.Words.{All-set, IsMapOf, Leaves, OnOk, SpellsMap, Written, entries_of, left_now, map_with, spelling, with_bytes, with_entry}
use Rattle.cyl_alloc.proofs.known.KnownMaps.store_entry.Goals as goal

-- what is written is the map with the entry
block : (g : _) (c : goal.After-write g) → IsMapOf (g.D.Disk.content c.args.disk.now) c.args.block (entries_of c.args.map.now) → c.put_in.new.block ≡ map_with (g.D.Disk.content c.args.disk.now) c.args.block c.args.entry
block g c is = c.put_in.ensures ∙ ap (λ (b : List ℕ). with_bytes b (c.args.block % 64) (spelling c.args.entry)) (c.requires.spells.spelled ∙ sym is.spelled)

pub returns-clause-written : goal.returns-clause-written
unfolding with_entry
returns-clause-written g c is =
    let image = g.D.Disk.content c.args.disk.now in
    subst (λ (b : List ℕ). OnOk c.write.result (g.D.Disk.content c.write.new.self ≡ set image (64 * (c.args.block / 64)) b)) (block g c is) c.write.ensures.written

pub returns-clause-images : goal.returns-clause-images
returns-clause-images g c is =
    subst (λ (b : List ℕ). Leaves g.D.Disk c.args.disk.now c.write.new.self (Written (left_now g.D.Disk c.args.disk.now) (64 * (c.args.block / 64)) b)) (block g c is) c.write.ensures.images

-- and it is a map
spells : (g : _) (c : goal.After-write g) → SpellsMap c.put_in.new.block
spells g c = subst SpellsMap (sym c.put_in.ensures) (spells_with c.args.map.now (c.args.block % 64) c.args.entry c.requires.spells (omega arith) c.requires.entry)

pub returns-clause-spells : goal.returns-clause-spells
returns-clause-spells g c = spells g c

pub invariant_of-self : goal.invariant_of-self
invariant_of-self g c = All-set SpellsMap _ _ _ (spells g c) c.self.invariant
