-- Each arm knows its kind, and the core's outcome is the definition's at the request's fields (Memories).
use mathlib.Core.Path.{ap}
use mir.Syntax.{w64}
use mir.Facts.{to_z-of_z}
use borrow.Author.Rules.{sfits_of}
use Rattle.pointer.specs.Pointer.{back, ahead}
use Rattle.pointer.specs.Width.{width_of}
use Rattle.bounds.proofs.Reach.{reach-answers}
use Rattle.bounds.proofs.Leak.{check-answers}
use Rattle.memory.proofs.Afterwards.{holds-bytes}
use Rattle.parts.proofs.Lent.{holds-marked}
use Rattle.tables.proofs.ReadBack.{holds-records}
use Rattle.perform.proofs.Memories.{can, allocate-left, deallocate-kind, deallocate-left, dereferenceable-left, signed-left, leak-left, not-asked}
use Rattle.perform.proofs.Accesses.{access-exponent, access-left}
use Rattle.perform.proofs.in_memory.in_memory.Goals as goal

pub allocate-requires : goal.allocate-requires
allocate-requires c = (c.requires.0.memory, (_, can c.requires.1 c.in-Allocate.is c.from-extra.ensures c.from-len.ensures c.from-exponent.ensures))

pub deallocate-requires : goal.deallocate-requires
deallocate-requires c = (c.requires.0.memory, holds-marked c.requires.1.holds)

pub load_or_store-requires : goal.load_or_store-requires
load_or_store-requires c = record { holds_words = (c.requires.0.memory, holds-bytes c.requires.1.holds); exponent_bound = access-exponent c.requires.1 c.in-Load.is c.from-exponent.ensures }

pub dereferenceable-requires : goal.dereferenceable-requires
dereferenceable-requires c = (c.requires.0.memory, holds-records c.requires.1.holds)

pub signed_dereferenceable-requires : goal.signed_dereferenceable-requires
signed_dereferenceable-requires c = (c.requires.0.memory, holds-records c.requires.1.holds)

pub leak_check-requires : goal.leak_check-requires
leak_check-requires c = (c.requires.0.memory, holds-records c.requires.1.holds)

pub returns-in-Allocate : goal.returns-in-Allocate
returns-in-Allocate c = λ s h. allocate-left h c.in-Allocate.is c.from-extra.ensures c.from-len.ensures c.from-exponent.ensures (width_of c.args.width) (c.allocate.ensures s.memory _ (can h c.in-Allocate.is c.from-extra.ensures c.from-len.ensures c.from-exponent.ensures))

pub returns-in-Deallocate : goal.returns-in-Deallocate
returns-in-Deallocate c = λ s h. deallocate-left h c.in-Deallocate.is c.pointer.ensures c.from-extra.ensures c.from-len.ensures c.from-exponent.ensures (width_of c.args.width) (c.deallocate.ensures s.memory _ (holds-marked h.holds) (deallocate-kind h c.in-Deallocate.is c.pointer.ensures c.from-extra.ensures c.from-len.ensures c.from-exponent.ensures))

pub returns-in-Load : goal.returns-in-Load
returns-in-Load c = λ s h.
    access-left h c.in-Load.is (width_of c.args.width) c.pointer-in-Load.ensures c.from-len.ensures c.from-exponent.ensures c.access_kind.ensures
    c.load_or_store.ensures.loaded c.load_or_store.ensures.stored

pub returns-in-Dereferenceable : goal.returns-in-Dereferenceable
returns-in-Dereferenceable c = λ s h. dereferenceable-left h c.pointer-in-Dereferenceable.ensures (width_of c.args.width) c.in-Dereferenceable.is c.from-len.ensures (reach-answers _ _ _ s.memory _ (c.dereferenceable.ensures s.memory (holds-records h.holds)))

pub returns-in-SignedDereferenceable : goal.returns-in-SignedDereferenceable
returns-in-SignedDereferenceable c = λ s h. let same = to_z-of_z {w = w64} {z = c.signed_length.result} (sfits_of c.signed_length.type_inv) in signed-left h c.pointer-in-SignedDereferenceable.ensures (width_of c.args.width) c.in-SignedDereferenceable.is c.signed_length.result c.signed_length.ensures {r = c.signed_dereferenceable.result} (rw (← ap back same, ← ap ahead same) (reach-answers _ _ _ s.memory c.args.words.now (c.signed_dereferenceable.ensures s.memory (holds-records h.holds))))

pub returns-in-LeakCheck : goal.returns-in-LeakCheck
returns-in-LeakCheck c = λ s h. leak-left h (width_of c.args.width) c.in-LeakCheck.is (check-answers s.memory _ (c.leak_check.ensures s.memory (holds-records h.holds)))

pub returns-in-Retag : goal.returns-in-Retag
returns-in-Retag c = λ s h. absurd (not-asked h c.in-Retag.is)
