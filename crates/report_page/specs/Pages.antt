-- The page that shows a document.
use Rattle.std.specs.Prelude.{ℕ, List, ◌++◌}
use Rattle.report_page.specs.declared.head.TheConstants.{HEAD}
use Rattle.report_page.specs.declared.tail.TheConstants.{TAIL}
use Rattle.report_page.specs.declared.tail_rest.TheConstants.{TAIL_REST}

-- what stands after a document, in two pieces
abbrev pub tail : List ℕ
tail = TAIL.now ++ TAIL_REST.now

-- what stands before a document, the document, and what stands after it
abbrev pub page_of : List ℕ → List ℕ
page_of document = (HEAD.now ++ document) ++ tail
