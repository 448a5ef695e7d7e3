-- What is known of a kind that is none of those asked for.
use Prim.Native.Nat.{ℕ, ◌%◌}
use mathlib.Core.List.{List, []}
use mathlib.Core.Path.{◌≡◌, refl}
use Rattle.definition.specs.Width.{Width}
use Rattle.definition.specs.Request as definition
use Rattle.definition.specs.Request.{following_length, stored_bytes}
use Rattle.definition.specs.Run.{width_by}
use Rattle.request.specs.declared.Kind.{Kind}
use Rattle.request.specs.declared.Kind.TheVariants.{Allocate, Deallocate, Load, Store, Retag, NewCall, EndCall, Dereferenceable, SignedDereferenceable, LeakCheck, Empty, Unused}
use Rattle.request.specs.declared.Request.{Request}
use Rattle.request.specs.Fields.{kind_of, request_of, frame_by}

pub nothing-follows : (q : Request) (ws : List ℕ) (k : Kind) → q.kind ≡ k → (k ≡ Store → ⊥) → (k ≡ Retag → ⊥) → following_length (request_of q ws) ≡ 0
unfolding following_length
nothing-follows q ws Allocate e h r = rw e
nothing-follows q ws Deallocate e h r = rw e
nothing-follows q ws Load e h r = rw e
nothing-follows q ws Store e h r = absurd (h refl)
nothing-follows q ws Retag e h r = absurd (r refl)
nothing-follows q ws NewCall e h r = rw e
nothing-follows q ws EndCall e h r = rw e
nothing-follows q ws Dereferenceable e h r = rw e
nothing-follows q ws SignedDereferenceable e h r = rw e
nothing-follows q ws LeakCheck e h r = rw e
nothing-follows q ws Empty e h r = rw e
nothing-follows q ws Unused e h r = rw e

pub frame-in-word : (q : Request) (k : Kind) → (k ≡ Retag → ⊥) → frame_by k q ≡ q.fourth % 32
frame-in-word q Allocate h = refl
frame-in-word q Deallocate h = refl
frame-in-word q Load h = refl
frame-in-word q Store h = refl
frame-in-word q Retag h = absurd (h refl)
frame-in-word q NewCall h = refl
frame-in-word q EndCall h = refl
frame-in-word q Dereferenceable h = refl
frame-in-word q SignedDereferenceable h = refl
frame-in-word q LeakCheck h = refl
frame-in-word q Empty h = refl
frame-in-word q Unused h = refl

pub nothing_stored : (k : Kind) (ws : List ℕ) → (k ≡ Store → ⊥) → stored_bytes (kind_of k) ws ≡ []
nothing_stored Allocate ws h = refl
nothing_stored Deallocate ws h = refl
nothing_stored Load ws h = refl
nothing_stored Store ws h = absurd (h refl)
nothing_stored Retag ws h = refl
nothing_stored NewCall ws h = refl
nothing_stored EndCall ws h = refl
nothing_stored Dereferenceable ws h = refl
nothing_stored SignedDereferenceable ws h = refl
nothing_stored LeakCheck ws h = refl
nothing_stored Empty ws h = refl
nothing_stored Unused ws h = refl

pub width-kept : (k : Kind) (q : definition.Request) (w : Width) → (k ≡ Empty → ⊥) → width_by (kind_of k) q w ≡ w
width-kept Allocate q w h = refl
width-kept Deallocate q w h = refl
width-kept Load q w h = refl
width-kept Store q w h = refl
width-kept Retag q w h = refl
width-kept NewCall q w h = refl
width-kept EndCall q w h = refl
width-kept Dereferenceable q w h = refl
width-kept SignedDereferenceable q w h = refl
width-kept LeakCheck q w h = refl
width-kept Empty q w h = absurd (h refl)
width-kept Unused q w h = refl
