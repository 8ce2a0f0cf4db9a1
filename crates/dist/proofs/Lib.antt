pub mod DistributionLemmas
