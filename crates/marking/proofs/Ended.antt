-- Where the draft of an index ended, its reading may go on at the index's own first leaf.
use Rattle.marking.proofs.Words.{AreOnce, Colours, Grey, IsGrey, IsLeft, IsMarked, IsMarking, IsToRead, IsWaiting, Puid, Rescue, State, cursor_of, draft_at, draft_over, ended_from, in_leaf, is_found, is_live, moved_at, nat_lt, object_at, own_part, same_puid, same_puid_is, with_cursor}
use Rattle.std.proofs.Common.{◌≡◌, inl, inr, ℕ, ◌≤◌, List, [], ◌∷◌, refl, sym, ◌∙◌, ap, subst, arith, true, false, cond, Option, Some, None}
use Rattle.marking.proofs.Places.{InDraft, InOwn, stands_at}

module _ (i : Puid) where
  grey_still : (es : List Grey) (j : Puid) → IsGrey (moved_at i own_part es) j → IsGrey es j
  grey_still [] j h = h
  grey_still (e ∷ es) j h = elim (same_puid i e.id) as (λ b. IsGrey (cond b (record e { cursor = own_part } ∷ es) (e ∷ moved_at i own_part es)) j → IsGrey (e ∷ es) j) [
    | true ↦ λ h. h
    | false ↦ λ h. elim h [ inl here ↦ inl here | inr later ↦ inr (grey_still es j later) ]
  ] h

  once_still : (es : List Grey) → AreOnce es → AreOnce (moved_at i own_part es)
  once_still [] once = tt
  once_still (e ∷ es) once = elim (same_puid i e.id) as (λ b. AreOnce (cond b (record e { cursor = own_part } ∷ es) (e ∷ moved_at i own_part es))) [
    | true ↦ once
    | false ↦ (λ grey. once.0 (grey_still es e.id grey), once_still es once.1)
  ]

  -- what is to be read is so still, where that of this index stands in its own part
  to_read_still : (es : List Grey) (from : Option Puid) (place : ℕ) → (from ≡ Some i → own_part ≤ place) → IsToRead es from place → IsToRead (moved_at i own_part es) from place
  to_read_still [] from place own h = h
  to_read_still (e ∷ es) from place own h = elim (same_puid i e.id) as (λ b. same_puid i e.id ≡ b → IsToRead (cond b (record e { cursor = own_part } ∷ es) (e ∷ moved_at i own_part es)) from place) [
    | true ↦ λ is. elim h [ inl here ↦ inl (here.0, own (sym here.0 ∙ ap Some (sym (same_puid_is i e.id is)))) | inr later ↦ inr later ]
    | false ↦ λ other. elim h [ inl here ↦ inl here | inr later ↦ inr (to_read_still es from place own later) ]
  ] refl

  moved_keeps : (s : State) (c : Colours) (waiting : List Rescue) → draft_at s.grants i ≡ None → IsMarking s c waiting → IsMarking s (with_cursor i own_part c) waiting
  moved_keeps s c waiting none is = record {
    root_marked = is.root_marked;
    coloured = record {
      covered = λ from place x found live. elim (is.coloured.covered from place x found (stays_live from live)) [
        | inl (IsMarked m) ↦ inl (IsMarked m)
        | inl (IsWaiting w) ↦ inl (IsWaiting w)
        | inl (IsLeft l) ↦ inl (IsLeft (to_read_still c.grey from place (own from place x found) l))
        | inr due ↦ inr due
      ];
      known = is.coloured.known;
      grey = λ j h. is.coloured.grey j (grey_still c.grey j h);
      once = once_still c.grey is.coloured.once;
      rescues = is.coloured.rescues;
      stands = is.coloured.stands;
    };
  }
    where
      stays_live : (from : Option Puid) → is_live from (with_cursor i own_part c) ≡ true → is_live from c ≡ true
      stays_live None live = live
      stays_live (Some j) live = live

      own : (from : Option Puid) (place : ℕ) (x : Puid) → is_found s from place x ≡ true → from ≡ Some i → own_part ≤ place
      own from place x found is = elim (stands_at (draft_at s.grants i) (object_at s.graph i) place x (subst (λ (f : Option Puid). is_found s f place x ≡ true) is found)) [
        | InDraft less h other ↦ (let no : in_leaf None place x ≡ true = subst (λ o. in_leaf o place x ≡ true) none h in cc)
        | InOwn leaf same h ↦ omega (arith, same)
      ]

  pub ended_keeps : (s : State) (c : Colours) (waiting : List Rescue) → draft_at s.grants i ≡ None → IsMarking s c waiting → IsMarking s (draft_over i c) waiting
  ended_keeps s c waiting none is = elim (cursor_of c.grey i) as (λ o. IsMarking s (ended_from o i c) waiting) [
    | None ↦ is
    | Some cursor ↦ elim (nat_lt cursor own_part) as (λ b. IsMarking s (cond b (with_cursor i own_part c) c) waiting) [ true ↦ moved_keeps s c waiting none is | false ↦ is ]
  ]
