mod SpanLemmas
mod CodeLemmas
