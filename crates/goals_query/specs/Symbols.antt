-- What a document declares, as it stands in the answer to `textDocument/documentSymbol` (LSP 3.17, "DocumentSymbol").
use Rattle.std.specs.Prelude.{ℕ, List, ◌++◌, codes, map}
use Rattle.serde_json.specs.Data.{Data, number, string, array, object, unsigned, member, no_members}
use Rattle.serde_json.specs.View.{items_of}
use Rattle.base_core.specs.declared.places.Position.{Position}
use Rattle.sentence_split.specs.declared.spans.Span.{Span}
use Rattle.prover_iface.specs.declared.outline.ItemKind.{ItemKind}
use Rattle.prover_iface.specs.declared.outline.ItemKind.TheVariants.{Axiom, Definition, Inductive, Theorem, Admitted}
use Rattle.prover_iface.specs.declared.outline.OutlineItem.{OutlineItem}
use Rattle.prover_iface.specs.Listings.{listed_axioms}
use Rattle.doc_check.specs.Check.{span_of}
use Rattle.goals_query.specs.Places.{range_data}

-- the number of a kind: a constant, an enumeration, or else a function (LSP 3.17, "SymbolKind")
abbrev pub kind_number : ItemKind → ℕ
kind_number Axiom = 14
kind_number Definition = 12
kind_number Inductive = 10
kind_number Theorem = 12
kind_number Admitted = 12

-- the statement, and the listed axioms
abbrev pub detail : OutlineItem → List ℕ
detail item = item.statement ++ listed_axioms item

-- a declaration that stands at this range
abbrev pub symbol_at : Data → OutlineItem → Data
symbol_at range item =
    object (member (codes "detail") (string (detail item))
    (member (codes "kind") (number (unsigned (kind_number item.kind)))
    (member (codes "name") (string item.name)
    (member (codes "range") range
    (member (codes "selectionRange") range no_members)))))

-- it stands from the beginning of the sentence that declares it, or begins its proof, to the end of the one that enters it
abbrev pub symbol_data : (ℕ → Position) → List Span → OutlineItem → Data
symbol_data at spans item = symbol_at (range_data at (span_of spans item.first).from (span_of spans item.last).to) item

abbrev pub symbols_data : (ℕ → Position) → List Span → List OutlineItem → Data
symbols_data at spans items = array (items_of (map (symbol_data at spans) items))
