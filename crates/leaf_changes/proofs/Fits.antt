-- Leaves that fit a size, one at a time, and roots of one kind, fill byte and size.
use Rattle.std.proofs.Common.{◌≡◌, ℕ, ◌+◌, ◌*◌, ◌<◌, ◌≤◌, List, get_or, Option, Some, None, refl, sym, ◌∙◌, ap, subst}
use Rattle.leaf_changes.proofs.Words.{Held, LeavesFit, Root, SetsSize, bytes_held, held_in, leaves_in, object_with}

-- what is held at leaf n fits
pub record FitsAt (size fill n : ℕ) (held : Option (List ℕ)) : Type 0 where
  pub within : (bytes : List ℕ) → held ≡ Some bytes → n < leaves_in size
  pub filled : (bytes : List ℕ) (i : ℕ) → held ≡ Some bytes → i < 512 → size ≤ 512 * n + i → get_or bytes i 0 ≡ fill

module _ (root : Root) (leaf : ℕ → Option Held) where
  pub fit_at : LeavesFit root leaf → (n : ℕ) → FitsAt root.size root.fill n (bytes_held (leaf n))
  fit_at fit n = of (leaf n) refl
    where
      of : (o : Option Held) → leaf n ≡ o → FitsAt root.size root.fill n (bytes_held o)
      of None is = record { within = λ bytes no. cc; filled = λ bytes i no small past. cc }
      of (Some h) is = record {
        within = λ bytes same. fit.within n h is;
        filled = λ bytes i same small past. let e : h.content ≡ bytes = cc in ap (λ (c : List ℕ). get_or c i 0) (sym e) ∙ fit.filled n i h is small past;
      }

  pub fit_each : ((n : ℕ) → FitsAt root.size root.fill n (bytes_held (leaf n))) → LeavesFit root leaf
  fit_each each = record {
    within = λ n h is. (each n).within h.content (ap bytes_held is);
    filled = λ n i h is. (each n).filled h.content i (ap bytes_held is);
  }

-- ---- of a root only its kind, fill byte and size say what its leaves give

module _ (size : ℕ) (root root' : Root) (head : SetsSize size root root') (leaf : ℕ → Option Held) where
  same_root : root' ≡ record root { word = root'.word; size = size; nodes = root'.nodes }
  same_root = λ i. record { kind = head.kind i; fill = head.fill i; word = root'.word; size = head.size i; nodes = root'.nodes }

  pub same_object : object_with root' leaf ≡ object_with (record root { size = size }) leaf
  unfolding object_with
  same_object = ap (λ (r : Root). object_with r leaf) same_root

  pub same_leaves : held_in root' leaf ≡ held_in (record root { size = size }) leaf
  same_leaves = ap (λ (r : Root). held_in r leaf) same_root

  pub same_fit : LeavesFit (record root { size = size }) leaf → LeavesFit root' leaf
  same_fit fit = subst (λ (r : Root). LeavesFit r leaf) (sym same_root) (record { within = fit.within; filled = fit.filled })
