mod WriteLemmas
mod SumLemmas
mod RowLemmas
mod ListLemmas
mod KeptLemmas
mod BothLemmas
mod EndingLemmas
mod MakeLemmas
