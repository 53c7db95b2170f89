-- What is left of a commit is of its object and of one that is made with it: the drafts of all others are on the disk.
use Rattle.std.proofs.Common.{◌≡◌, ◌≢◌, inl, inr, ⊎_elim, ℕ, Bool, true, false, List, [], length, length-set, Option, Some, None, refl, sym, ◌∙◌, ap, subst}
use Rattle.std.proofs.lemmas.Bool.{and_from, and_parts, cases_Bool, false_from_ne_true}
use Rattle.cyl_alloc.specs.Left.{LeftCommit}
use Rattle.cyl_alloc.specs.Space.{Kept}
use Rattle.cyl_map.proofs.Mapped.{block_at-mapped, length-mapped, mapped_stays}
use Rattle.cyl_map.specs.Mapped.{mapped}
use Rattle.intentions.proofs.Reading.{image_holds}
use Rattle.intentions.proofs.Settled.{IsLeftOn, left_entry, left_is, left_on, left_whole, settled_open, settled_stays}
use Rattle.intentions.proofs.Words.{Ghosts, Graph, Holds, Image, IsPlaced, MapEntry, Object, Puid, Root, block_at, entry_in, get_or-set_other, is_fixed, not_map, object_at, part_of, placed, same_or_not, taken_apart}
use Rattle.intentions.specs.Left.{AreOpen, GoesOn, StoreIs, StoreWith, coming, copied_if, settled}
use Rattle.ufs_model.specs.Numbers.{has_number}
use Rattle.vol_image.proofs.Steps.{not_label}
use Rattle.vol_image.specs.Part.{BelongsTo}
use Rattle.vol_owners.proofs.Entries.{owner_is, taken_of}
use Rattle.vol_owners.proofs.Kept.{draft_kept}
use Rattle.vol_owners.proofs.Owners.{list_misses}
use Rattle.vol_owners.specs.Account.{Drafts, HasDraft, HasDraftIf, Opened}
use Rattle.vol_owners.specs.Change.{ChangesOnly, IsOpenTo, of_owners}
use Rattle.vol_owners.specs.Owner.{is_had, is_meant, is_owned_by, is_placed, is_taken}

-- a block of one of these owners is open to changes of them
pub owners_open : (r : ℕ) (rs : List ℕ) (entry : Option MapEntry) → has_number r rs ≡ true → is_owned_by is_taken r entry ≡ true → IsOpenTo (λ e. of_owners rs e) entry
owners_open r rs entry among is =
    let two = and_parts (is_placed is_taken entry) _ is in
    inr (two.0, and_from _ _ two.0 (subst (λ (n : ℕ). has_number n rs ≡ true) (owner_is is_taken r entry is) among))

-- ---- what is left

module _ {D : Type 0} (g : Ghosts D) (graph : Graph) (d : D) (l : LeftCommit) (id : Puid) (o : Object) (root : id.block ≡ l.root) (owners : List ℕ) (own : has_number id.block owners ≡ true) where
  abbrev image : Image
  image = g.content d

  abbrev Mine : Option MapEntry → Bool
  Mine e = of_owners owners e

  -- from the image that is to come to the disk as it is only blocks of these owners change
  left_back : (b : Bool) → GoesOn g b graph id o l d → Holds (g.content d) graph → AreOpen owners (g.content d) l.rest → ChangesOnly Mine (mapped (settled l) (copied_if b l (g.content d))) (g.content d)
  left_back b goes holds opens = record {
    size = sym (length-mapped (settled l) mid ∙ length_copied b);
    maps = holds.maps;
    own = holds.own;
    label = sym (block_at-mapped (settled l) mid 1 (λ none. cc) ∙ block_copied b 1 (λ same. not_label id.block apart (sym same)));
    fixed = λ n is. sym (stays n (λ same. (let no : true ≡ false = sym is ∙ ap is_fixed same ∙ apart in cc))
        (false_from_ne_true _ (λ there. (let no : true ≡ false = sym is ∙ (left.may n there).2.apart in cc))));
    entries = λ n. ⊎_elim (λ same. inr (subst (λ (m : ℕ). IsOpenTo Mine (entry_in end m) × IsOpenTo Mine (entry_in image m)) (sym same) (opened id.block at_root)))
        (λ other. ⊎_elim (λ there. inr (opened n (opens n there))) (λ none. inl (sym (stays n other none))) (cases_Bool (has_number n l.rest))) (same_or_not n id.block);
    contents = λ n loose. ⊎_elim (λ same. inr (subst (λ (m : ℕ). IsOpenTo Mine (entry_in end m)) (sym same) (opened id.block at_root).0))
        (λ other. inl (sym (block_at-mapped (settled l) mid n (not_map n loose) ∙ block_copied b n other))) (same_or_not n id.block);
  }
    where
      mid : Image
      mid = copied_if b l image

      end : Image
      end = mapped (settled l) mid

      left : IsLeftOn g graph d l id o root b (left_on g graph d l id o root b goes).0
      left = (left_on g graph d l id o root b goes).1

      on_root : IsPlaced image id.block id.block Root
      on_root = placed image id.block id.block Root (part_of (entry_in image id.block)) refl (subst (BelongsTo id.block Root) (ap part_of (left.entries id.block)) left.on.part)

      apart : is_fixed id.block ≡ false
      apart = taken_apart image graph holds id.block id.block on_root.taken

      at_root : IsOpenTo Mine (entry_in image id.block)
      at_root = owners_open id.block owners (entry_in image id.block) own (taken_of image id.block id.block on_root.taken)

      length_copied : (b : Bool) → length (copied_if b l image) ≡ length image
      length_copied true = refl
      length_copied false = length-set image l.root (block_at image l.shadow)

      block_copied : (b : Bool) (n : ℕ) → n ≢ id.block → block_at (copied_if b l image) n ≡ block_at image n
      block_copied true n other = refl
      block_copied false n other = get_or-set_other image l.root n (block_at image l.shadow) [] (λ same. other (same ∙ sym root))

      stays : (n : ℕ) → n ≢ id.block → has_number n l.rest ≡ false → entry_in end n ≡ entry_in image n
      stays n other none = mapped_stays (settled l) mid end (left_whole g graph d l id o root b goes) (left_is g graph d l id o root b goes) n (λ e here. settled_stays l n e (λ same. other (same ∙ sym root)) none) ∙ left.entries n

      opened : (n : ℕ) → IsOpenTo Mine (entry_in image n) → IsOpenTo Mine (entry_in end n) × IsOpenTo Mine (entry_in image n)
      opened n is = (by (entry_in image n) refl, is)
        where
          by : (was : Option MapEntry) → entry_in image n ≡ was → IsOpenTo Mine (entry_in end n)
          by None was = absurd (shut (subst (IsOpenTo Mine) was is))
            where
              shut : IsOpenTo Mine None → ⊥
              shut (inl free) = cc
              shut (inr two) = (let no = two.0 in cc)
          by (Some e) was = subst (IsOpenTo Mine) (sym (left_entry g graph d l id o root b goes n e was)) (settled_open owners l n e (subst (IsOpenTo Mine) was is))

-- so each draft that stands is on the disk
pub draft_there : {D : Type 0} (g : Ghosts D) (graph : Graph) (ds : Drafts) (d : D) (k : Kept) → StoreIs g graph ds d k → (x : Puid) (o : Object) (e : Opened) → object_at graph x ≡ Some o → ds x ≡ Some e → HasDraft (g.content d) x e
draft_there g graph ds d k is x o e at alone = with_left k.left is
  where
    with_left : (w : Option LeftCommit) → StoreWith g graph ds d k w → HasDraft (g.content d) x e
    with_left None store = subst (HasDraftIf (g.content d) x) alone (store.account.drafts x o at)
    with_left (Some l) has =
        let go = has.going in
        let end = coming (g.content d) (Some l) in
        let back = left_back g graph d l go.id go.object go.root_is has.owners has.own l.copied go.goes (image_holds g graph d k l go) has.opens in
        let apart : has_number x.block has.owners ≡ false = elim (cases_Bool (has_number x.block has.owners)) [ inl there ↦ (let none : None ≡ Some e = sym (has.shut x there) ∙ alone in cc) | inr no_one ↦ no_one ] in
        draft_kept (λ f. of_owners has.owners f) end (g.content d) graph ds has.account back x o at
        (list_misses is_taken is_had has.owners x.block apart) (list_misses is_taken is_meant has.owners x.block apart) e
        (subst (HasDraftIf end x) alone (has.account.drafts x o at))
