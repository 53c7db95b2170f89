-- What is held after a block is found, or after it was taken in.
use Rattle.std.proofs.Common.{◌≡◌, ◌≢◌, inl, inr, ◌%◌, ℕ, true, false, IsTrue, List, Option, Some, None, Result, Ok, Err, is_some, nat_eq, refl, sym, ap, subst}
use Rattle.std.specs.Prelude.{OnOk, is_err}
use Rattle.std.specs.Cmp.{nat_eq_equiv}
use Rattle.std.proofs.lemmas.Bool.Decides.{eqb_tells}
use Rattle.lru.proofs.CallerLemmas.{lookup-put_entries}
use Rattle.lru.specs.LruCache.{lru_cache}
use Rattle.map_cache.specs.declared.held.Stage.TheVariants.{Keeping}
use Rattle.map_cache.specs.Holding.{Holding, IsHolding, TakesIn, found, held_block, has_map, with_front}
use Rattle.map_cache.proofs.Entries.{promoted-none, length-promoted, lookup-promoted, length-put_entries, lookup-put_other}

some_of : {X : Type 0} (o : Option X) → is_some o ≡ true → (x : X) × (o ≡ Some x)
some_of None is = cc
some_of (Some x) is = (x, refl)

none_of : {X : Type 0} (o : Option X) → is_some o ≡ false → o ≡ None
none_of None is = refl
none_of (Some x) is = cc

-- ---- found

pub found_none : (h : Holding) (n : ℕ) → has_map h n ≡ false → found h n ≡ h
found_none h n is = rw (promoted-none n h.blocks (none_of (held_block h n) is)) refl

pub found_holds : (h : Holding) (n : ℕ) → IsHolding h → IsHolding (found h n)
found_holds h n is = record {
  room = is.room;
  few = rw (length-promoted n h.blocks) is.few;
  maps = λ m held. is.maps m (rw (lookup-promoted n m h.blocks) at held);
  none = λ not. rw (is.none not) refl;
}

-- ---- put in front

-- what was promised of a call that didn't fail
pub put_done : {X E P : Type 0} (r : Result X E) → OnOk r P → is_err r ≡ false → P
put_done (Ok x) done is = done
put_done (Err e) done is = cc

module _ (h : Holding) (n : ℕ) (block : List ℕ) where
  abbrev pub put : Holding
  put = record h { blocks = with_front h n block }

  others : (m : ℕ) (bytes : List ℕ) → m ≢ n → held_block put m ≡ Some bytes → held_block h m ≡ Some bytes
  others m bytes apart is = lookup-put_other (lru_cache h.blocks h.capacity) n block m bytes apart is

  maps : IsHolding h → n % 64 ≡ 0 → (m : ℕ) → IsTrue (has_map put m) → m % 64 ≡ 0
  maps valid map m is = elim (eqb_tells m n) [
    | inl equal ↦ subst (λ (k : ℕ). k % 64 ≡ 0) (sym equal.1) map
    | inr apart ↦ let one = some_of (held_block put m) is in valid.maps m (ap (λ (o : Option (List ℕ)). is_some o) (others m one.0 apart.1 one.1))
  ]

  pub put_holds : IsHolding h → h.stage ≡ Keeping → n % 64 ≡ 0 → IsHolding put
  put_holds valid keeps map = record {
    room = valid.room;
    few = length-put_entries (lru_cache h.blocks h.capacity) n block valid.room valid.few;
    maps = maps valid map;
    none = λ not. absurd (not keeps);
  }

  pub put_takes_in : h.stage ≡ Keeping → n % 64 ≡ 0 → TakesIn h put n block
  put_takes_in keeps map = record {
    put = λ _ _. inl (record { front = refl; is_held = first; no_want = refl });
    no_map = λ not. absurd (not map);
    not_kept = λ not. absurd (not keeps);
    this = λ bytes is. let here = first in cc;
    others = others;
    capacity = refl;
    stage = refl;
  }
    where
      first : held_block put n ≡ Some block
      first = lookup-put_entries nat_eq (lru_cache h.blocks h.capacity) n block nat_eq_equiv
