-- What each fault of a mark names, its number and its layer, and the words for layers.
use Rattle.std.specs.Prelude.{ℕ, List, codes}
use Rattle.marks.specs.declared.fault.Layer.{Layer}
use Rattle.marks.specs.declared.fault.Layer.TheVariants.{Mark, Plan, Sheet}
use Rattle.marks.specs.declared.fault.MarkFault.{MarkFault}
use Rattle.marks.specs.declared.fault.MarkFault.TheVariants.{NoLag}

abbrev pub mark_number : MarkFault → ℕ
mark_number NoLag = 10

abbrev pub mark_layer : MarkFault → Layer
mark_layer NoLag = Mark

-- what a refusal names
pub record Refusal : Type 0 where
  pub number : ℕ
  pub layer : Layer

abbrev pub mark_refusal : MarkFault → Refusal
mark_refusal fault = record { number = mark_number fault; layer = mark_layer fault }

abbrev pub layer_word : Layer → List ℕ
layer_word Mark = codes "mark"
layer_word Plan = codes "plan"
layer_word Sheet = codes "sheet"
