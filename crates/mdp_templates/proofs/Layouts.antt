-- Entries that are read one after the other, and the law that a layout has one answer.
use Rattle.std.proofs.Common.{◌≡◌, ℕ, zero, suc, List, [], ◌∷◌, ◌++◌, take, Some, Result, Err, ap, ◌∙◌, inl, inr}
use Rattle.std.specs.Prelude.{slice_get}
use Rattle.std.specs.List.{AllZip}
use Rattle.mdp_sbe.specs.declared.refusal.Refusal.{Refusal}
use Rattle.mdp_sbe.specs.Framing.{Parts}
use Rattle.mdp_sbe.specs.Group.{IsGrouped}
use Rattle.mdp_templates.specs.declared.fault.Fault.{Fault}
use Rattle.mdp_templates.specs.declared.fault.Fault.TheVariants as faults
use Rattle.mdp_templates.specs.Answer.{OnRefusal}
use Rattle.mdp_templates.specs.Layout.{AreEntries, AreRefusedEntries, IsRefusedLayout, layout_of}
use Rattle.mdp_templates.specs.Layout.IsRefusedLayout.{in_entry}

-- one more of each list
pub AllZip-more : {A B : Type 0} (R : A → B → Type 0) (xs : List A) (n : ℕ) (x : A) (ys : List B) (y : B) → AllZip R (take n xs) ys → slice_get xs n ≡ Some x → R x y → AllZip R (take (suc n) xs) (ys ++ y ∷ [])
AllZip-more R [] n x ys y zipped here r = absurd cc
AllZip-more R (a ∷ xs) zero x [] y zipped here r = let same : x ≡ a = cc in (rw (← same) r, tt)
AllZip-more R (a ∷ xs) zero x (b ∷ ys) y zipped here r = absurd zipped
AllZip-more R (a ∷ xs) (suc n) x [] y zipped here r = absurd zipped
AllZip-more R (a ∷ xs) (suc n) x (b ∷ ys) y zipped here r = (zipped.0, AllZip-more R xs n x ys y zipped.1 here r)

-- the n-th text is refused, and those before it are entries
pub refused_at : {E : Type 0} (read : List ℕ → Result E Refusal) (texts : List (List ℕ)) (n : ℕ) (text : List ℕ) (entries : List E) (r : Refusal) → AreEntries read (take n texts) entries → slice_get texts n ≡ Some text → read text ≡ Err r → AreRefusedEntries read texts r
refused_at read [] n text entries r so_far here bad = absurd cc
refused_at read (a ∷ texts) zero text entries r so_far here bad = let same : a ≡ text = cc in inl (ap read same ∙ bad)
refused_at read (a ∷ texts) (suc n) text [] r so_far here bad = absurd so_far
refused_at read (a ∷ texts) (suc n) text (e ∷ entries) r so_far here bad = inr (e, so_far.0, refused_at read texts n text entries r so_far.1 here bad)

-- a fault of the entries is one of the layout
pub refused_layout : {E : Type 0} (read : List ℕ → Result E Refusal) (least_root least_entry : ℕ) (message : Parts) (root : List ℕ) (texts : List (List ℕ)) (fault : Fault) → IsGrouped message least_root least_entry root texts → OnRefusal (AreRefusedEntries read texts) fault → OnRefusal (IsRefusedLayout (layout_of read least_root least_entry) message) fault
refused_layout read least_root least_entry message root texts (faults.Refused r) grouped bad = in_entry root texts grouped bad
refused_layout read least_root least_entry message root texts faults.Memory grouped bad = tt
