-- One object more in the account, whose blocks alone changed.
use Rattle.index_drafts.proofs.Words.{◌≡◌, ℕ, [], ◌∷◌, length, Bool, true, false, Option, Some, refl, sym, ◌∙◌, ap, subst, inl, inr, ◌==◌, Accounts, ChangesOnly, Graph, HasItsBlocks, Holds, Image, MapEntry, Object, Puid, ReadsAs, accounts_go_on, and_parts, block_there, both_ways, eqb-true, frames_others, has_block, has_number, is_had, is_leaving, is_meant, is_meant_for, is_placed, is_taken, list_misses, ne_eqb, object_at, object_goes_on, object_put, object_stands, of_owner, or_cases, other_is, others, sight, with_object, Drafts, HasDraftIf, IsMadeBy, each_put, no_draft, object_at_put, still_there}
use Rattle.vol_owners.proofs.Owners.{Becomes}

the_one : (n c : ℕ) → has_number n (c ∷ []) ≡ true → c ≡ n
the_one n c h = elim (or_cases (c == n) false h) [ inl is ↦ eqb-true c n is | inr never ↦ cc ]

module _ (a b : Image) (g : Graph) (ds : Drafts) (new : Puid) (p : Object) (had : Accounts a g ds) (changes : ChangesOnly (λ entry. of_owner new.block entry) a b) (fresh : has_block g.objects new.block ≡ false) where
  missed : (x : Puid) (o : Object) → object_at g x ≡ Some o → has_number x.block (new.block ∷ []) ≡ false
  missed x o there = rw (ne_eqb new.block x.block (λ is. both_ways _ fresh (ap (has_block g.objects) is ∙ block_there g x o there))) refl

  pub object_added : ReadsAs (length a) new (sight b new.block) p → HasItsBlocks b new.block → ((n : ℕ) → is_meant_for b new.block n ≡ false) → (IsMadeBy ds new.block → ⊥) → Accounts b (with_object g new p) ds
  object_added reads has none_meant not_made =
      accounts_go_on T a b g ds had changes (λ r. has_number r (new.block ∷ [])) (λ entry h. (and_parts (is_placed is_taken entry) _ h).1) ds
      (λ r is. subst (λ (q : ℕ). Becomes b ds q) (the_one r new.block is) (inl (object_stands b (with_object g new p) holds new p (object_at_put g new p) has ds not_made))) (λ n other. (λ m. m, λ m. m))
      (with_object g new p) holds each had.made_once (λ x d is. still_there g new p x (had.on_objects x d is))
    where
      T : Option MapEntry → Bool
      T entry = of_owner new.block entry

      holds : Holds b (with_object g new p)
      holds = object_put a b g new p had.holds
          (frames_others T a b g ds had changes (others g new) (λ x o found. let other = other_is g new x o found in (other.0, list_misses is_taken is_had (new.block ∷ []) x.block (missed x o other.0)))) reads

      each : (x : Puid) (o : Object) → object_at (with_object g new p) x ≡ Some o → HasItsBlocks b x.block × HasDraftIf b x (ds x)
      each = each_put g new p (λ x o. HasItsBlocks b x.block × HasDraftIf b x (ds x))
          (has, subst (HasDraftIf b new) (sym (no_draft a g ds had new (λ o there. both_ways _ fresh (block_there g new o there)))) none_meant)
          (λ x o there other. let miss = missed x o there in object_goes_on T a b g ds had changes x o there
          (list_misses is_taken is_had (new.block ∷ []) x.block miss) (list_misses is_taken is_leaving (new.block ∷ []) x.block miss) (list_misses is_taken is_meant (new.block ∷ []) x.block miss))
