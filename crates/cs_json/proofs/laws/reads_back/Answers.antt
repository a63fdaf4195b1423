-- The laws are lemmas.
use Rattle.cs_json.proofs.Depth.{depth-data_of}
use Rattle.cs_json.proofs.PlainDocument.{document-printed}
use Rattle.cs_json.proofs.ReadableLemmas.{document_readable}
use Rattle.cs_json.proofs.ReadsBack.{doc_of-data_of}
use Rattle.cs_json.proofs.Utf8Lemmas.{IsUtf8-printed}
use Rattle.cs_json.proofs.laws.reads_back.Goals as goal

pub returns-clause-value : goal.returns-clause-value
returns-clause-value c = doc_of-data_of

pub returns-clause-text : goal.returns-clause-text
returns-clause-text c =
    λ doc readable texts. document-printed doc readable (IsUtf8-printed doc readable texts)

pub returns-clause-readable : goal.returns-clause-readable
returns-clause-readable c = λ doc bytes. document_readable bytes doc

pub returns-clause-nests : goal.returns-clause-nests
returns-clause-nests c = depth-data_of
