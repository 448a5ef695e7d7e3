-- None where words are left over; else by the layout.
use mathlib.Core.Path.{◌∙◌}
use mathlib.Core.List.{map}
use Rattle.definition.specs.Layout.{unsafe_cell}
use Rattle.layout.specs.Filled.{meta_of, header_of}
use Rattle.layout.specs.declared.LayoutStrategy.TheVariants.{Sized, Slice, TraitObject, Tuple}
use Rattle.layout.proofs.Fill.{instead, nothing}
use Rattle.layout.proofs.Words.{left_over, none_left, last-tuple}
use Rattle.layout.proofs.fill_last.Goals as goal

pub returns-then-head-words : goal.returns-then-head-words
returns-then-head-words c = let a = c.args in
    instead (left_over (header_of a.head) (meta_of a.metadata) a.words.now c.if-head-words.true) (nothing a.mask.now)

pub returns-in-Sized : goal.returns-in-Sized
returns-in-Sized c = let a = c.args in
    instead (none_left a.head Sized (meta_of a.metadata) a.words.now c.in-Sized.is c.if-head-words.false) c.fill_sized.ensures

pub returns-in-Slice : goal.returns-in-Slice
returns-in-Slice c = let a = c.args in
    instead (none_left a.head Slice (meta_of a.metadata) a.words.now c.in-Slice.is c.if-head-words.false) c.fill_slice.ensures

pub returns-in-TraitObject : goal.returns-in-TraitObject
returns-in-TraitObject c = let a = c.args in
    instead (none_left a.head TraitObject (meta_of a.metadata) a.words.now c.in-TraitObject.is c.if-head-words.false) c.fill_trait_object.ensures

pub returns-in-Tuple : goal.returns-in-Tuple
returns-in-Tuple c = let a = c.args in
    instead (none_left a.head Tuple (meta_of a.metadata) a.words.now c.in-Tuple.is c.if-head-words.false ∙ last-tuple a.head.size (map unsafe_cell a.words.now)) (nothing a.mask.now)
