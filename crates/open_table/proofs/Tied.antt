-- The tables beside the list.
use Rattle.std.proofs.Common.{◌≡◌, ℕ, ◌+◌, ◌<◌, ◌≤◌, ◌^◌, List, [], ◌∷◌, ◌++◌, length, refl, sym, ap, ◌∙◌, arith, Option, Some, None, true, false, cond, eqb, leb, length-append}
use Rattle.open_table.proofs.Words.{OpenGrant, IsTied, MOST_GRANTS, Mode, Puid, collides, conflicts, find, grants_of, is_grant_table, list_all, list_any, mode_against, nat_tests, option_map, same_puid, same_tuid, then_some}
use Rattle.open_table.proofs.Lists.{grants_of-push, open_mode-push}
use Rattle.open_table.proofs.Collide.{collides-first, collides-none, collides-shared, none_collide-push, tuids_differ-push}

module _ {grants : List OpenGrant} {own : ℕ → List OpenGrant} {modes : Puid → Option Mode} (tied : IsTied grants own modes) where
  -- ---- the interlock

  pub against-none : (g : OpenGrant) → modes g.id ≡ None → mode_against grants g ≡ None
  against-none g none = rw (collides-none grants g (sym (tied.modes g.id) ∙ none)) refl

  pub against-some : (g : OpenGrant) (m : Mode) → modes g.id ≡ Some m → mode_against grants g ≡ then_some (conflicts g.mode m) m
  against-some g m there =
      elim (conflicts g.mode m) as (λ t. conflicts g.mode m ≡ t → mode_against grants g ≡ then_some t m) [
        | true ↦ λ conflict. collides-first grants g m (sym (tied.modes g.id) ∙ there) conflict
        | false ↦ λ shared. rw (collides-shared grants g m tied.apart (sym (tied.modes g.id) ∙ there) shared) refl
      ] refl

  -- a grant that conflicts with none, of a session that may have one more, is one more
  pub IsTied-more : (g : OpenGrant) → mode_against grants g ≡ None → length (own g.session) < MOST_GRANTS → list_any (λ h. same_tuid h.tuid g.tuid) grants ≡ false → length grants + 1 < 2 ^ 32
      → {own' : ℕ → List OpenGrant} → ((q : ℕ) → own' q ≡ cond (eqb q g.session) (own q ++ g ∷ []) (own q))
      → {modes' : Puid → Option Mode} → ((q : Puid) → modes' q ≡ cond (same_puid q g.id) (Some g.mode) (modes q))
      → IsTied (grants ++ g ∷ []) own' modes'
  IsTied-more g against few new small own_is modes_is = record {
    own = λ who. own_is who ∙ ap (λ gs. cond (eqb who g.session) (gs ++ g ∷ []) gs) (tied.own who) ∙ sym (grants_of-push grants g who);
    modes = λ id. modes_is id ∙ ap (λ m. cond (same_puid id g.id) (Some g.mode) m) (tied.modes id) ∙ sym (open_mode-push grants g id free);
    few = λ who. rw (grants_of-push grants g who) (counted who);
    apart = none_collide-push grants g tied.apart free;
    tuids = tuids_differ-push grants g tied.tuids new;
    count = simp length-append small;
  }
    where
      none-of : {X Y : Type 0} (f : X → Y) (o : Option X) → option_map f o ≡ None → o ≡ None
      none-of f None h = refl
      none-of f (Some x) h = cc

      counted : (who : ℕ) → length (cond (eqb who g.session) (grants_of grants who ++ g ∷ []) (grants_of grants who)) ≤ MOST_GRANTS
      counted who = elim (eqb who g.session) as (λ t. eqb who g.session ≡ t → length (cond t (grants_of grants who ++ g ∷ []) (grants_of grants who)) ≤ MOST_GRANTS) [
        | true ↦ λ is.
            let same : who ≡ g.session = grind (arith, nat_tests) in
            let own_now = ap length (tied.own g.session) in
            rw same (simp length-append (omega arith))
        | false ↦ λ other. tied.few who
      ] refl

      free : find (collides g) grants ≡ None
      free = none-of (λ h. h.mode) (find (collides g) grants) against

  -- ---- what holds of all

  pub is_grant_table-all : is_grant_table grants ≡ true
  is_grant_table-all = rw (tied.apart, tied.tuids) (each grants)
    where
      each : (some : List OpenGrant) → list_all (λ g. leb (length (grants_of grants g.session)) MOST_GRANTS) some ≡ true
      each [] = refl
      each (g ∷ some) = let few = tied.few g.session in let here : leb (length (grants_of grants g.session)) MOST_GRANTS ≡ true = grind (arith, nat_tests) in rw here (each some)
