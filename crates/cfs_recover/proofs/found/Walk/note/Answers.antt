use Rattle.std.proofs.Common.{◌≡◌, inl, inr, true, false, List, [], ◌∷◌, ◌++◌, refl, sym, ◌∙◌, ap, subst, arith, rules, is_some}
use Rattle.cfs_recover.proofs.Words.{Found, IsSized, Kind, Listing, NamesNothing, Puid, insert_entry, puid_cmp}
use Rattle.cfs_base.specs.declared.kind.Kind.TheVariants as kinds
use Rattle.cfs_recover.specs.Found as spec
use Rattle.cfs_recover.proofs.Named.{named_nothing}
use Rattle.cfs_recover.proofs.Noting.{add_grows, add_walk, clash_walk, sized_push}
use Rattle.cfs_recover.proofs.Listings.{listed, listed_new}
use Rattle.cfs_recover.proofs.Refused.{told_err}
use Rattle.cfs_recover.proofs.found.Walk.note.Goals as goal

pub returns-in_err-check_slot-clause-told : goal.returns-in_err-check_slot-clause-told
returns-in_err-check_slot-clause-told c image done walk named =
    let nothing : NamesNothing image c.args.id = elim c.in_err-check_slot.ensures.1 [
      | inl none ↦ inl none
      | inr past ↦ inr (inl (omega (arith, past, c.room.ensures.room, walk.room)))
    ] in
    told_err _ _ _ _ c.from_residual.ensures.1 (subst (spec.IsFaultOf image) (sym c.in_err-check_slot.ensures.0) (named_nothing image c.args.id c.args.by named nothing))

pub returns-then-has_root-clause-told : goal.returns-then-has_root-clause-told
returns-then-has_root-clause-told c image done walk named =
    let none : is_some c.kind.result ≡ false = search rules in
    clash_walk image c.args.self.now _ c.args.id c.args.by refl refl refl refl done walk named (ap is_some (sym c.kind.ensures) ∙ none) (sym c.if-has_root.ensures)

pub invariant_of-self-2 : goal.invariant_of-self-2
invariant_of-self-2 c =
    let was = c.args.self.now in
    let named = c.add.ensures.named in
    let room = c.add.ensures.room in
    let is : record { named = insert_entry puid_cmp was.directory.named c.args.id kinds.Index; room = was.directory.room } ≡ c.add.new.self = λ i. record { named = sym named i; room = sym room i } in
    let pushed = sized_push was.directory was.found.items was.held.items was.sized c.args.id c.args.by kinds.Index (omega (arith, c.in_ok-check_slot.ensures.1, c.room.ensures.room)) (sym c.if-has_root.ensures) in
    record {
      sized = subst (λ (xs : List Found). IsSized c.add.new.self xs was.held.items) (sym c.in_ok-push.ensures.items)
          (subst (λ (d : Listing). IsSized d (was.found.items ++ record { block = c.args.id.block; by = c.args.by } ∷ []) was.held.items) is pushed);
    }

pub returns-clause-told : goal.returns-clause-told
returns-clause-told c image done walk named =
    let directory = c.add.ensures.named in
    let room = c.add.ensures.room in
    add_walk image c.args.self.now _ c.args.id c.args.by (λ i. record { named = directory i; room = room i }) c.in_ok-push.ensures.items refl refl done walk named c.in_ok-check_slot.ensures.0 (sym c.if-has_root.ensures)

pub returns-clause-noted : goal.returns-clause-noted
returns-clause-noted c =
    inl (subst (λ (n : List (Puid × Kind)). listed n c.args.id ≡ true) (sym c.add.ensures.named) (listed_new c.args.self.now.directory.named c.args.id kinds.Index))

pub returns-clause-grows : goal.returns-clause-grows
returns-clause-grows c =
    let directory = c.add.ensures.named in
    let room = c.add.ensures.room in
    add_grows [] c.args.self.now _ c.args.id c.args.by (λ i. record { named = directory i; room = room i }) c.in_ok-push.ensures.items refl refl
