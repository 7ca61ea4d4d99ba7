use Rattle.std.proofs.Common.{Bor, ◌≡◌, ◌∙◌, ℕ, List, Some, sym, ap, inl, inr}
use Rattle.csv.specs.declared.parser.Config.{Config}
use Rattle.csv.specs.Reading.{strip_bom}
use Rattle.csv_line.specs.Line.{line_config, one_record}
use Rattle.csv_line.proofs.LineReads.{none, several, only}
use Rattle.csv_line.proofs.record.record_of.Goals as goal

pub returns-then-not-found : goal.returns-then-not-found
unfolding one_record
returns-then-not-found c =
    let made = c.from_reader-reader.ensures in
    let cfg = line_config c.args.delimiter in
    let config : c.from_reader-reader.result.config ≡ cfg = rw (c.flexible.ensures, c.has_headers.ensures, c.delimiter.ensures) at made.config ∙ ap (λ (k : Config). record k { delimiter = c.args.delimiter }) c.new.ensures.config in
    let trim = rw (c.flexible.ensures, c.has_headers.ensures, c.delimiter.ensures) at made.trim ∙ c.new.ensures.trim in
    let headers = rw (c.flexible.ensures, c.has_headers.ensures) at made.has_headers in
    let read = rw c.if-not-found.true at (c.in-Ok.ensures.reads trim (inr (inr (headers, made.headers)))) in
    sym (none (λ (s : Bor (List ℕ)). Some s.now) c.from_reader-reader.result c.read_byte_record.new.self cfg (strip_bom c.args.line.now) config made.state made.source _ read)

pub returns-then-more : goal.returns-then-more
unfolding one_record
returns-then-more c =
    let made = c.from_reader-reader.ensures in
    let cfg = line_config c.args.delimiter in
    let config : c.from_reader-reader.result.config ≡ cfg = rw (c.flexible.ensures, c.has_headers.ensures, c.delimiter.ensures) at made.config ∙ ap (λ (k : Config). record k { delimiter = c.args.delimiter }) c.new.ensures.config in
    let trim = rw (c.flexible.ensures, c.has_headers.ensures, c.delimiter.ensures) at made.trim ∙ c.new.ensures.trim in
    let headers = rw (c.flexible.ensures, c.has_headers.ensures) at made.has_headers in
    let read = rw c.if-not-found.false at (c.in-Ok.ensures.reads trim (inr (inr (headers, made.headers)))) in
    let next = rw c.if-more.true at (c.in-Ok-read_byte_record.ensures.reads (read.3 ∙ trim) (inl (c.in-Ok.ensures.ready trim))) in
    sym (several (λ (s : Bor (List ℕ)). Some s.now) c.from_reader-reader.result c.read_byte_record.new.self cfg (strip_bom c.args.line.now) config made.state made.source c.read_byte_record-2.new.self _ _ read next)

pub returns : goal.returns
unfolding one_record
returns c =
    let made = c.from_reader-reader.ensures in
    let cfg = line_config c.args.delimiter in
    let config : c.from_reader-reader.result.config ≡ cfg = rw (c.flexible.ensures, c.has_headers.ensures, c.delimiter.ensures) at made.config ∙ ap (λ (k : Config). record k { delimiter = c.args.delimiter }) c.new.ensures.config in
    let trim = rw (c.flexible.ensures, c.has_headers.ensures, c.delimiter.ensures) at made.trim ∙ c.new.ensures.trim in
    let headers = rw (c.flexible.ensures, c.has_headers.ensures) at made.has_headers in
    let read = rw c.if-not-found.false at (c.in-Ok.ensures.reads trim (inr (inr (headers, made.headers)))) in
    let next = rw c.if-more.false at (c.in-Ok-read_byte_record.ensures.reads (read.3 ∙ trim) (inl (c.in-Ok.ensures.ready trim))) in
    sym (only (λ (s : Bor (List ℕ)). Some s.now) c.from_reader-reader.result c.read_byte_record.new.self cfg (strip_bom c.args.line.now) config made.state made.source c.read_byte_record-2.new.self _ _ read next)
