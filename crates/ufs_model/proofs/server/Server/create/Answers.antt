use Rattle.std.proofs.Common.{◌≡◌, ℕ, ◌+◌, List, ◌∙◌, ap, sym, subst, arith, Some, None, false}
use Rattle.ufs_model.proofs.Words.{Collection, Drawing, Fill, IsInside, Object, Puid, Ref, Server, changed_object, created, draft_of, has_block, held_leaves, insert_entry, is_at, lookup, named, object_at, puid_cmp, same_Some, seen, the_view, unwrap_or, with_edge, word}
use Rattle.ufs_model.specs.declared.asked.Reply.TheVariants as replies
use Rattle.ufs_model.specs.declared.collection.Collection.TheVariants as collections
use Rattle.ufs_model.proofs.RootBlocks.{found_still}
use Rattle.ufs_model.proofs.ServerChanges.{slot_inside, created_state, draft_inside, created_in_draft}
use Rattle.ufs_model.proofs.server.Server.create.Goals as goal

-- what is found once the new object is there is what was found before
still_found : (es new : List (Puid × Object)) (into id : Puid) (found made o : Object) → lookup (is_at (puid_cmp into)) es ≡ Some found → has_block es id.block ≡ false
    → new ≡ insert_entry puid_cmp es id made → lookup (is_at (puid_cmp into)) new ≡ Some o → found ≡ o
still_found es new into id found made o at free is there = same_Some _ _ (sym (found_still into id es found made at free) ∙ sym (ap (lookup (is_at (puid_cmp into))) is) ∙ there)

module _ (was now : Server) (view : was ≡ now) (who : ℕ) (index : Ref) (into : Puid) (slot : ℕ) (id : Puid) (found : Object)
    (no_draft : draft_of now.state who index ≡ None) (names : Some into ≡ named now.state who index) (inside : IsInside (Fill slot None) (seen now.state who index).object)
    (at : object_at was.state.graph into ≡ Some found) where
  fits : IsInside (Fill slot (Some id)) found
  fits = slot_inside was.state who index into slot id found (subst (λ (s : Server). draft_of s.state who index ≡ None) (sym view) no_draft)
      (subst (λ (s : Server). named s.state who index ≡ Some into) (sym view) (sym names)) at (subst (λ (s : Server). IsInside (Fill slot None) (seen s.state who index).object) (sym view) inside)

pub held_once_filled-requires : goal.held_once_filled-requires
held_once_filled-requires c =
    fits (the_view c.self.inside) c.args.self.now c.self.view_is c.args.who c.args.index c.in-Some-named.into c.args.slot (record { block = c.args.block; word = c.next.result }) c.in-Some-get.found.now
    c.in_default.ensures.none c.in-Some-named.ensures c.requires.inside (sym c.in-Some-get.ensures.value)

pub fill_object-requires-clause-inside : goal.fill_object-requires-clause-inside
fill_object-requires-clause-inside c = λ o there.
    let id : Puid = record { block = c.args.block; word = c.next.result } in
    let free = subst (λ (s : Server). has_block s.state.graph.objects c.args.block ≡ false) (sym c.self.view_is) c.requires.free in
    let same = still_found c.self.inside.objects.entries c.insert.new.self.entries c.in-Some-named.into id c.in-Some-get.found.now c.args.object o (sym c.in-Some-get.ensures.value) free c.in_ok-insert.ensures.entries there in
    subst (IsInside (Fill c.args.slot (Some id))) same
    (fits (the_view c.self.inside) c.args.self.now c.self.view_is c.args.who c.args.index c.in-Some-named.into c.args.slot id c.in-Some-get.found.now c.in_default.ensures.none c.in-Some-named.ensures c.requires.inside (sym c.in-Some-get.ensures.value))

pub fill_object-requires-clause-held : goal.fill_object-requires-clause-held
fill_object-requires-clause-held c = λ o there.
    let id : Puid = record { block = c.args.block; word = c.next.result } in
    let free = subst (λ (s : Server). has_block s.state.graph.objects c.args.block ≡ false) (sym c.self.view_is) c.requires.free in
    let same = still_found c.self.inside.objects.entries c.insert.new.self.entries c.in-Some-named.into id c.in-Some-get.found.now c.args.object o (sym c.in-Some-get.ensures.value) free c.in_ok-insert.ensures.entries there in
    subst (λ (x : Object). unwrap_or c.in_ok-held-in-Some-get.held (held_leaves x) ≡ held_leaves (changed_object (Fill c.args.slot (Some id)) x)) same c.in_ok-held-in-Some-get.ensures

-- by a draft

pub create_in_draft-requires : goal.create_in_draft-requires
create_in_draft-requires c =
    draft_inside c.args.self.now.state c.args.who c.args.index c.in-Some.at c.args.slot (record { block = c.args.block; word = c.next.result }) c.in-Some.ensures.some c.requires.inside

pub draw-requires : goal.draw-requires
draw-requires c =
    let place = c.in-Some.ensures.some in
    let drawn : c.self-in-Some.inside.words.drawn ≡ c.args.self.now.state.drawn =
    ap (λ (v : Server). v.state.drawn) (c.self-in-Some.view_is ∙ c.in_ok-create_in_draft.ensures.ok place.grant place.draft place.stands place.has) in
    omega (arith, drawn, c.requires.words)

pub returns-in-Some-clause-seed : goal.returns-in-Some-clause-seed
returns-in-Some-clause-seed c =
    let place = c.in-Some.ensures.some in
    ap (λ (w : Drawing). w.seed) c.draw.ensures
    ∙ ap (λ (v : Server). v.seed) (c.self-in-Some.view_is ∙ c.in_ok-create_in_draft.ensures.ok place.grant place.draft place.stands place.has)

pub returns-in-Some-clause-ok : goal.returns-in-Some-clause-ok
returns-in-Some-clause-ok c =
    let now = c.args.self.now in
    let s = now.state in
    let who = c.args.who in
    let index = c.args.index in
    let place = c.in-Some.ensures.some in
    let id : Puid = record { block = c.args.block; word = c.next.result } in
    let new = c.create_in_draft.new.self in
    let after = the_view c.self-in-Some.inside in
    let told = c.in_ok-create_in_draft.ensures.ok place.grant place.draft place.stands place.has in
    let id_is = ap (λ (w : ℕ). record { block = c.args.block; word = w }) (c.next.ensures ∙ ap (λ (v : Server). word v.seed (v.state.drawn + 1)) c.self.view_is) in
    let quiet : s.collection ≡ collections.None = ap (λ (v : Server). v.state.collection) (sym c.self.view_is) in
    let drawn : s.drawn + 1 ≡ c.draw.new.self.drawn =
    ap (λ (n : ℕ). n + 1) (sym (ap (λ (v : Server). v.state.drawn) (c.self-in-Some.view_is ∙ told))) ∙ sym (ap (λ (w : Drawing). w.drawn) c.draw.ensures) in
    created_in_draft s who index c.in-Some.at c.args.slot id place c.requires.state now.seed c.args.block c.args.object new.state id_is
    (λ g d stands has. ap (λ (v : Server). v.state) (c.in_ok-create_in_draft.ensures.ok g d stands has))
    ∙ ap (λ (past : Collection). (replies.Id id, record new.state { drawn = s.drawn + 1; collection = with_edge (named s who index) id past })) quiet
    ∙ ap (λ (v : Server). (replies.Id id, record v.state { drawn = s.drawn + 1; collection = collections.None })) (sym c.self-in-Some.view_is)
    ∙ ap (λ (n : ℕ). (replies.Id id, record after.state { drawn = n })) drawn

-- by the graph

pub returns-clause-ok : goal.returns-clause-ok
returns-clause-ok c =
    let was = the_view c.self.inside in
    let who = c.args.who in
    let index = c.args.index in
    let id : Puid = record { block = c.args.block; word = c.next.result } in
    let none = subst (λ (s : Server). draft_of s.state who index ≡ None) (sym c.self.view_is) c.in_default.ensures.none in
    let names = subst (λ (s : Server). named s.state who index ≡ Some c.in-Some-named.into) (sym c.self.view_is) (sym c.in-Some-named.ensures) in
    let free = subst (λ (s : Server). has_block s.state.graph.objects c.args.block ≡ false) (sym c.self.view_is) c.requires.free in
    let found = c.in-Some-get.found.now in
    let at = sym c.in-Some-get.ensures.value in
    let first = c.in_ok-insert.ensures.entries in
    let there = ap (lookup (is_at (puid_cmp c.in-Some-named.into))) first ∙ found_still c.in-Some-named.into id c.self.inside.objects.entries found c.args.object at free in
    let made = created_state was.state who index c.in-Some-named.into c.args.slot id found none names at was.seed c.args.block c.args.object c.insert.new.self.entries c.fill_object.new.objects.entries
    (ap (λ (w : ℕ). record { block = c.args.block; word = w }) c.next.ensures) first (c.fill_object.ensures found there) in
    sym (ap (λ (s : Server). created s.seed s.state who index c.args.slot c.args.object c.args.block) c.self.view_is) ∙ made
    ∙ ap (λ (w : Drawing). (replies.Id id, record was.state { graph = record was.state.graph { objects = c.fill_object.new.objects.entries }; drawn = w.drawn })) (sym c.draw-2.ensures)
